use Rattle.std.proofs.Common.{sym, ◌∙◌}
use Rattle.krb_aes.proofs.StealingLemmas.{cts_is}
use Rattle.krb_aes.proofs.stealing.cts_encrypt.Goals as goal

pub returns : goal.returns
returns c = c.encrypt_from.ensures c.args.schedule.now c.forward-turns.ensures.keys ∙ sym (cts_is c.args.schedule.now c.args.text.now)
