-- Each is as it was.
use Rattle.std.proofs.Common.{◌∙◌, set, get_or, refl, ap}
use Rattle.std.proofs.lemmas.List.{set-get_or}
use Rattle.krb_peers.specs.declared.receiver.Receiving.{Receiving}
use Rattle.krb_peers.specs.ReceiverState.{ReceiverState}
use Rattle.krb_relay.proofs.rounds.prepare.Goals as goal

pub loop-lane-init : goal.loop-lane-init
loop-lane-init c = refl

pub loop-lane-preserved : goal.loop-lane-preserved
loop-lane-preserved c =
    let r : Receiving = get_or c.loop-lane.receivings c.loop-lane.lane c.index-receivings-lane.result in
    ap (λ (z : ReceiverState). let y : Receiving = record r { receiver = z } in set c.loop-lane.receivings c.loop-lane.lane y) c.prepare_batch.follows.holds-at-none
    ∙ (set-get_or c.loop-lane.receivings c.loop-lane.lane c.index-receivings-lane.result ∙ c.loop-lane.invariant)
