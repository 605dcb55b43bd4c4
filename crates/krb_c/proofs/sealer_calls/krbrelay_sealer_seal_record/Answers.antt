use Rattle.std.proofs.Common.{ℕ, Option, sym, subst, length}
use Rattle.krb_seal.specs.Sealer.{SealerState}
use Rattle.krb_structs.specs.Fault.{answer_of}
use Rattle.krb_structs.specs.Reasons.{RecordAnswer}
use Rattle.krb_c.specs.Answers.{RecordAnswerBy}
use Rattle.krb_c.proofs.sealer_calls.krbrelay_sealer_seal_record.Goals as goal

pub returns-clause-answer : goal.returns-clause-answer
returns-clause-answer c =
    let kind = c.args.kind in let body = c.args.body.now in let at = c.args.at.now in let room = length c.args.out.now in
    let code = answer_of c.seal_record-sealed.result in
    let held = subst (λ (s : SealerState). RecordAnswer s kind body at room code) c.deref_mut.ensures.value c.seal_record-sealed.ensures.answer in
    let by = subst (λ (s : Option SealerState). RecordAnswerBy s kind body at room code) (sym c.in-Some.ensures.taken) held in
    subst (λ (k : ℕ). RecordAnswerBy c.args.handle.now.sealer kind body at room k) (sym c.answer.ensures.answer) by
