use Rattle.std.proofs.Common.{inl, refl, length}
use Rattle.krb_structs.specs.Answers.{text_of, ok_text}
use Rattle.krb_structs.specs.Fault.{answer_of}
use Rattle.krb_structs.proofs.AnswerLemmas.{text_answer, text_written}
use Rattle.krb_structs.proofs.answers.text_into.Goals as goal

pub returns-then-code-eq0-clause-told : goal.returns-then-code-eq0-clause-told
returns-then-code-eq0-clause-told c =
    text_written text_of ok_text c.args.code ok_text c.put_text.result c.put_text.new.out (inl (c.if-code-eq0.true, refl)) c.put_text.ensures.size c.put_text.ensures.written

pub returns-then-code-eq0-clause-answer : goal.returns-then-code-eq0-clause-answer
returns-then-code-eq0-clause-answer c =
    text_answer text_of ok_text c.args.code (length c.args.out.now) ok_text (answer_of c.put_text.result) (inl (c.if-code-eq0.true, refl)) c.put_text.ensures.answer
