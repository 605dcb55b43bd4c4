use Rattle.krb_calls.proofs.TurnLemmas.{no_refusal}
use Rattle.krb_calls.proofs.many.frames_of_all.Goals as goal

pub unreachable-requires : goal.unreachable-requires
unreachable-requires c =
    no_refusal c.args.sealer.now c.session_sealer.result.now c.args.all.now c.in-Err-Refused.field-0 c.in-Err-Refused.field-0-0 c.in-Err-Refused.field-0-1
    c.session_sealer.ensures c.requires c.in-Err-Refused.field-0-is c.in-Err-Refused.ensures.answer
