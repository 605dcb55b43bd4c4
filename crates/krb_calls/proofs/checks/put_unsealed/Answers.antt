use Rattle.krb_calls.proofs.TurnLemmas.{timed_read}
use Rattle.krb_calls.proofs.checks.put_unsealed.Goals as goal

pub unreachable-requires : goal.unreachable-requires
unreachable-requires c =
    c.in_default.ensures (timed_read c.args.messages.now c.loop-index.index _ c.loop-index-test.true c.requires.timed).1
