use Rattle.std.proofs.Common.{Err, subst, sym}
use Rattle.std.specs.Option.{ForSome}
use Rattle.krb_seal.specs.Covered.{IsCodedFrame}
use Rattle.krb_peers.specs.ReceiverState.{ReceiverState}
use Rattle.krb_peers.specs.Receiver.{IsJudgement}
use Rattle.krb_structs.proofs.lane_receiver.LaneReceiver.open.Goals as goal

pub open_coded-requires : goal.open_coded-requires
open_coded-requires c =
    record { coded = subst (λ (z : ReceiverState). ForSome c.args.coded (IsCodedFrame z.opener c.args.frame.now)) (sym c.self.view_is) c.requires.coded }

pub returns-after-matches-clause-refused : goal.returns-after-matches-clause-refused
returns-after-matches-clause-refused c =
    subst (λ (s : ReceiverState). IsJudgement s c.args.now c.args.frame.now (Err c.in-Err.unopened.refusal)) c.self.view_is c.in-Err.ensures.refused
