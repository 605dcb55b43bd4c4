use Rattle.std.proofs.Common.{inl, refl, length}
use Rattle.krb_structs.specs.Answers.{name_of, ok_name}
use Rattle.krb_structs.specs.Fault.{answer_of}
use Rattle.krb_structs.proofs.AnswerLemmas.{text_answer, text_written}
use Rattle.krb_structs.proofs.answers.name_into.Goals as goal

pub returns-then-code-eq0-clause-named : goal.returns-then-code-eq0-clause-named
returns-then-code-eq0-clause-named c =
    text_written name_of ok_name c.args.code ok_name c.put_text.result c.put_text.new.out (inl (c.if-code-eq0.true, refl)) c.put_text.ensures.size c.put_text.ensures.written

pub returns-then-code-eq0-clause-answer : goal.returns-then-code-eq0-clause-answer
returns-then-code-eq0-clause-answer c =
    text_answer name_of ok_name c.args.code (length c.args.out.now) ok_name (answer_of c.put_text.result) (inl (c.if-code-eq0.true, refl)) c.put_text.ensures.answer
