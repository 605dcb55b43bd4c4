use Rattle.std.proofs.Common.{ℕ, subst}
use Rattle.krb_seal.specs.Sealer.{SealerState, HasFrameSize}
use Rattle.krb_structs.specs.Moment.{micros_of}
use Rattle.krb_structs.proofs.Answering.{timed}
use Rattle.krb_structs.proofs.any_sealer.AnySealer.next_size.Goals as goal

pub returns-clause-size : goal.returns-clause-size
returns-clause-size c =
    let at = micros_of c.args.at.now in
    let told = subst (λ (m : ℕ). HasFrameSize c.self.inside.sealer c.args.len m c.frame_size.result) c.in_ok-at.ensures.value c.frame_size.ensures in
    let is_timed = timed c.args.at.now c.in_ok-at.ensures.answer in
    (c.if-len-gt-USER_DATA_LIMIT.false, is_timed.1, subst (λ (s : SealerState). HasFrameSize s c.args.len at c.frame_size.result) c.self.view_is told)
