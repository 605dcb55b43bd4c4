use Rattle.std.proofs.Common.{ℕ, sym, subst, length}
use Rattle.krb_structs.specs.Reasons.{NewAnswer, SessionAnswer}
use Rattle.krb_structs.specs.Session.{IsSession}
use Rattle.krb_structs.proofs.Answering.{answer_is, key_met}
use Rattle.krb_structs.proofs.any_sealer.AnySealer.of.Goals as goal

pub returns-in_err-session-clause-answer : goal.returns-in_err-session-clause-answer
returns-in_err-session-clause-answer c =
    let told = c.args.told.now in let n = length c.args.key.now in
    let Then : ℕ → Type 0 = SessionAnswer (IsSession c.args.told.now) told.mode told.sender.len told.receiver.len in
    let is = answer_is c.from_residual-in_err-session.result c.in_err-session.field-0.0 c.from_residual-in_err-session.ensures.1 in
    subst (λ (code : ℕ). NewAnswer c.args.etype n (IsSession c.args.told.now) told.mode told.sender.len told.receiver.len code) (sym is)
    (key_met c.args.etype n Then _ c.ranges.etype c.in_ok-key.ensures.answer c.in_err-session.ensures.answer)

pub returns-clause-answer : goal.returns-clause-answer
returns-clause-answer c =
    let told = c.args.told.now in
    let Then : ℕ → Type 0 = SessionAnswer (IsSession c.args.told.now) told.mode told.sender.len told.receiver.len in
    key_met c.args.etype (length c.args.key.now) Then 0 c.ranges.etype c.in_ok-key.ensures.answer c.in_ok-session.ensures.answer
