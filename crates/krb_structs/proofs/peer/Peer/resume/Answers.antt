use Rattle.std.proofs.Common.{arith, inr, length}
use Rattle.krb_structs.specs.Fault.{answer_of}
use Rattle.krb_structs.specs.Peer.{CanResume}
use Rattle.krb_structs.proofs.Answering.{condition_met, new_answer, with_first}
use Rattle.krb_structs.proofs.peer.Peer.resume.Goals as goal

pub returns-clause-answer : goal.returns-clause-answer
returns-clause-answer c =
    let told = c.args.told.now in let n = length c.args.key.now in let code = answer_of c.begin.result in
    let can = condition_met (CanResume c.args.told.now c.args.demand.now c.args.state.now) c.in_ok-next.ensures.answer in
    let begun = new_answer c.args.etype n _ told.mode told.sender.len told.receiver.len code c.ranges.etype c.begin.ensures.answer in
    inr (can, (c.in_ok-next.next, (c.in_ok-next.expected, c.in_ok-next.ensures.numbers, inr (λ e. omega arith, with_first c.args.etype n c.args.told.now c.in_ok-next.next code begun))))
