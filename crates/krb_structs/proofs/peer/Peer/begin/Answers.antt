use Rattle.std.proofs.Common.{ℕ, sym, subst, length}
use mir.Syntax.{w32}
use mir.Val.{of_z, to_z}
use Rattle.krb_structs.specs.declared.session.KrbExpect.{KrbExpect}
use Rattle.krb_structs.specs.Fault.{fault_code}
use Rattle.krb_structs.specs.Peer.{peer_expect}
use Rattle.krb_structs.specs.Reasons.{NewAnswer}
use Rattle.krb_structs.specs.Session.{IsExpect, IsSession}
use Rattle.krb_structs.proofs.Answering.{answer_is, made_after, made_or_memory, new_answer}
use Rattle.krb_structs.proofs.PeerLemmas.{expects_nothing}
use Rattle.krb_structs.proofs.peer.Peer.begin.Goals as goal

pub returns-in_err-opener-clause-answer : goal.returns-in_err-opener-clause-answer
returns-in_err-opener-clause-answer c =
    let told = c.args.told.now in let d = c.args.demand.now in let n = length c.args.key.now in let etype = c.args.etype in
    let code = fault_code c.in_err-opener.field-0.0 in
    let is = answer_is c.from_residual-in_err-opener.result c.in_err-opener.field-0.0 c.from_residual-in_err-opener.ensures.1 in
    let sealer = new_answer etype n (IsSession c.args.told.now) told.mode told.sender.len told.receiver.len 0 c.ranges.etype c.in_ok-sealer.ensures.answer in
    let expects = subst (λ (x : KrbExpect). NewAnswer (to_z w32 (of_z w32 etype)) n (IsExpect x) x.mode x.sender.len x.receiver.len code) c.peer_expect.ensures c.in_err-opener.ensures.answer in
    let opener = new_answer etype n (IsExpect (peer_expect told d)) told.mode d.sender.len d.receiver.len code c.ranges.etype expects in
    subst (λ (k : ℕ). NewAnswer etype n (IsSession c.args.told.now) told.mode told.sender.len told.receiver.len k) (sym is)
    (made_after etype n (IsSession c.args.told.now) (IsExpect (peer_expect told d)) told.mode told.sender.len told.receiver.len d.sender.len d.receiver.len code sealer (expects_nothing told d)
    (c.requires.is_demand.addresses.sender, c.requires.is_demand.addresses.receiver) opener)

pub returns-clause-answer : goal.returns-clause-answer
returns-clause-answer c =
    let told = c.args.told.now in let n = length c.args.key.now in
    made_or_memory c.args.etype n (IsSession c.args.told.now) told.mode told.sender.len told.receiver.len
    (new_answer c.args.etype n (IsSession c.args.told.now) told.mode told.sender.len told.receiver.len 0 c.ranges.etype c.in_ok-sealer.ensures.answer)
