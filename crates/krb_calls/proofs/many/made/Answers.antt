use Rattle.std.proofs.Common.{◌∙◌}
use Rattle.krb_calls.proofs.TurnLemmas.{all_timed, can_seal_given}
use Rattle.krb_calls.proofs.many.made.Goals as goal

pub unsealed-requires : goal.unsealed-requires
unsealed-requires c = all_timed c.args.sealer.now c.args.messages.now c.requires

pub frames_of_all-frames-requires : goal.frames_of_all-frames-requires
frames_of_all-frames-requires c =
    can_seal_given c.args.sealer.now c.args.messages.now c.deref.result.now (c.deref.ensures.value ∙ c.in_ok-all.ensures) c.requires
