-- What was tested makes a sender.
use Rattle.std.proofs.Common.{rules}
use Rattle.krb_peers.proofs.SendingLemmas.{short_texts}
use Rattle.krb_thread_tests.proofs.relay_asserts.assert_sender.Goals as goal

pub returns : goal.returns
returns g c = record {
  limits = record {
    texts = short_texts c.args.sending.now.texts.items (search rules);
    batch = search rules;
  };
  ats = search rules;
  next = search rules;
}
