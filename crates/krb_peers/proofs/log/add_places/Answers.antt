use Rattle.std.proofs.Common.{arith}
use Rattle.krb_peers.proofs.BatchLogLemmas.{place_pushed}
use Rattle.krb_peers.proofs.log.add_places.Goals as goal

pub loop-i-preserved : goal.loop-i-preserved
loop-i-preserved c =
    let before = c.loop-i.invariant in
    let len = c.push_reserved.ensures.len in
    let capacity = c.push_reserved.ensures.capacity in
    let room = before.1 in
    (place_pushed _ _ _ c.args.first c.loop-i.i c.push_reserved.ensures.items before.0, omega (arith, len, capacity, room))
