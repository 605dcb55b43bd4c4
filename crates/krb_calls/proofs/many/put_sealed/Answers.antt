use Rattle.std.proofs.Common.{arith}
use Rattle.krb_calls.proofs.TurnLemmas.{frame_count}
use Rattle.krb_calls.proofs.many.put_sealed.Goals as goal

pub put_frames-requires-clause-count : goal.put_frames-requires-clause-count
put_frames-requires-clause-count c =
    omega (arith, frame_count c.args.sealer.now c.args.messages.now c.in_ok-frames.frames.items c.in_ok-frames.ensures.sealed, c.deref-2.ensures.len, c.requires)
