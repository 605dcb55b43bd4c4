use Rattle.krb_carry.proofs.ClaimLemmas.{one_finding, one_digest, stay_true, delivered_took_effect, nothing_from_there_on, others_are_stopped, each_is_an_outbox, one_session, no_number_again}
use Rattle.krb_carry.proofs.TextLemmas.{texts_took_effect}
use Rattle.krb_carry.proofs.ForkLemmas.{forks_happen}
use Rattle.krb_carry.proofs.ExampleLemmas.{fork_exists}
use Rattle.krb_carry.proofs.copies.copies_laws.Goals as goal

pub returns : goal.returns
returns c =
    let names = c.histories_laws.ensures.receipts in
    record {
      findings = one_finding;
      digest = one_digest c.histories_laws.ensures.goes_on;
      receipts = stay_true;
      delivered = delivered_took_effect names;
      texts = texts_took_effect names;
      stopped = others_are_stopped names;
      forked = nothing_from_there_on names;
      outboxes = each_is_an_outbox;
      session = one_session;
      begun = no_number_again;
      happen = forks_happen c.histories_laws.ensures.one;
      example = fork_exists c.histories_laws.ensures.one;
    }
