use Rattle.krb_calls.proofs.TakenLemmas.{refused}
use Rattle.krb_calls.proofs.one.take_one.Goals as goal

pub returns-in-Err-clause-takes : goal.returns-in-Err-clause-takes
returns-in-Err-clause-takes c =
    refused c.args.receiver.now c.take_coded.new.self c.args.at.now c.args.frame.now c.args.out.now c.take_coded.new.out c.args.taken.now c.in-Err.fault c.code-taken.result c.take_coded.new.number
    c.code-taken.ensures.value c.code-taken.ensures.not_zero c.in-Err.ensures.answer c.in-Err.ensures.misordered c.in-Err.ensures.untold c.in-Err.ensures.unchanged c.in-Err.ensures.kept
