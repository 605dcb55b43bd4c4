use Rattle.krb_commands.proofs.PlainLemmas.{opened_in_range}
use Rattle.krb_commands.proofs.plain.outcome_of.Goals as goal

pub returns-in-Ok-clause-in_range : goal.returns-in-Ok-clause-in_range
returns-in-Ok-clause-in_range c = opened_in_range c.args.opener.now c.args.number c.args.now c.args.frame.now c.in-Ok.user_data c.in-Ok.ensures.answer
