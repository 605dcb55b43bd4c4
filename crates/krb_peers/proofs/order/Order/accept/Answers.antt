-- Each answer is the one of `answer_to`, so one offer more is answered as `Accepted` says.
use Rattle.std.proofs.Common.{◌≡◌, Ok, Err, sym, ap, ◌∙◌, arith, rules}
use Rattle.std.proofs.lemmas.Grind.{common_steps}
use Rattle.krb_peers.specs.declared.order.OrderRefusal.TheVariants.{AfterClose, BadOrder}
use Rattle.krb_peers.specs.Order.{Offer, answer_to, next_demand}
use Rattle.krb_record.specs.Record.{is_close}
use Rattle.krb_peers.proofs.OrderLemmas.{demand_after-nil, demand_one}
use Rattle.krb_peers.proofs.AcceptedLemmas.{answered_with}
use Rattle.krb_peers.proofs.order.Order.accept.Goals as goal

pub returns-then-self-clause-answered : goal.returns-then-self-clause-answered
returns-then-self-clause-answered c =
    let offer : Offer = record { number = c.args.number; carried = c.args.offered.now } in
    let is : Err AfterClose ≡ answer_to c.args.self.now offer = search rules in
    λ first offers answers has. answered_with first offers answers c.args.self.now offer _ _ has is (sym (demand_after-nil c.args.self.now))

pub returns-then-number-self-clause-answered : goal.returns-then-number-self-clause-answered
returns-then-number-self-clause-answered c =
    let offer : Offer = record { number = c.args.number; carried = c.args.offered.now } in
    let is : Err BadOrder ≡ answer_to c.args.self.now offer = grind (arith, common_steps) in
    λ first offers answers has. answered_with first offers answers c.args.self.now offer _ _ has is (sym (demand_after-nil c.args.self.now))

pub returns-clause-answered : goal.returns-clause-answered
returns-clause-answered c =
    let offer : Offer = record { number = c.args.number; carried = c.args.offered.now } in
    let is : Ok tt ≡ answer_to c.args.self.now offer = grind (arith, common_steps) in
    let close : c.match-matches.matches ≡ is_close c.args.offered.now = search rules in
    λ first offers answers has. answered_with first offers answers c.args.self.now offer _ _ has is (
    c.advance.ensures ∙ (ap (next_demand c.args.self.now) close ∙ demand_one c.args.self.now c.args.offered.now (search rules)))
