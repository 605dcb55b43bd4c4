use Rattle.krb_lane.proofs.Steps.{sends_again}
use Rattle.krb_lane.proofs.patience.put.Goals as goal

pub try_send_as-requires-clause-rule : goal.try_send_as-requires-clause-rule
try_send_as-requires-clause-rule g c =
    (sends_again _ _ _ _ _ _ c.loop-look.invariant.1 c.loop-look.invariant.2 c.requires.sends c.requires.room c.requires.unended c.requires.next, λ items views h at. tt)

pub send_as-requires-clause-rule : goal.send_as-requires-clause-rule
send_as-requires-clause-rule g c =
    (sends_again _ _ _ _ _ _ c.loop-look.invariant.1 c.loop-look.invariant.2 c.requires.sends c.requires.room c.requires.unended c.requires.next, λ items views h at. tt)
