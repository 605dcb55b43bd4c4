-- No frame was judged.
use Rattle.krb_relay.proofs.StandsLemmas.{finished_none}
use Rattle.krb_relay.proofs.serving.give_up.Goals as goal

pub returns-clause-finished : goal.returns-clause-finished
returns-clause-finished g c = finished_none _ _ _ _ c.args.fault c.requires.log c.requires.fresh c.drain.ensures
