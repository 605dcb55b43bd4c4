-- A lane more.
use Rattle.std.proofs.Common.{◌≡◌, ◌∙◌, ◌<◌, ◌+◌, ◌++◌, ◌∷◌, [], ℕ, List, length, take, get_or, sym, ap, subst}
use Rattle.std.specs.Prelude.{All}
use Rattle.std.proofs.lemmas.List.{take_more, take_all}
use Rattle.krb_lane.specs.Side.{Side}
use Rattle.krb_relay.specs.declared.waiting.Waiting.{Waiting}
use Rattle.krb_relay.specs.Waiting.{HasTaken, HaveTaken, IsUnjudged}
use Rattle.krb_relay.proofs.WaitingLemmas.{have_taken_none, have_taken_push, unjudged_none, unjudged_push}
use Rattle.krb_relay.proofs.waiting.none_waiting.Goals as goal

one_more : (ends : List Side) (i : ℕ) (x : Side) (ws zs : List Waiting) (w : Waiting) → i < length ends → x ≡ get_or ends i x → HaveTaken (take i ends) (take i ends) ws → HasTaken x x w
    → zs ≡ ws ++ w ∷ [] → HaveTaken (take (i + 1) ends) (take (i + 1) ends) zs
one_more ends i x ws zs w lt at h t is =
    let e : take (i + 1) ends ≡ take i ends ++ x ∷ [] = take_more ends i x lt ∙ ap (λ y. take i ends ++ y ∷ []) (sym at) in
    let P : List Side → List Waiting → Type 0 = λ l vs. HaveTaken l l vs in
    subst (λ l. P l zs) (sym e) (subst (λ vs. P (take i ends ++ x ∷ []) vs) (sym is) (have_taken_push (take i ends) ws x w h t))

pub loop-rx-init : goal.loop-rx-init
loop-rx-init c =
    let none = c.in_ok-all.ensures.items in
    record { taken = have_taken_none _ none; unjudged = unjudged_none _ none }

pub loop-rx-preserved : goal.loop-rx-preserved
loop-rx-preserved c =
    let pushed = c.in_ok-push.ensures.items in
    record {
      taken = one_more c.args.ends.now c.loop-rx.rx-index c.rx-item.result c.loop-rx.all.items c.push.new.self.items c.in_ok-nothing.nothing c.loop-rx-test.true c.rx-item.is c.loop-rx.invariant.taken c.in_ok-nothing.ensures.taken pushed;
      unjudged = (let P : List Waiting → Type 0 = λ vs. All IsUnjudged vs in subst P (sym pushed) (unjudged_push c.loop-rx.all.items c.in_ok-nothing.nothing c.loop-rx.invariant.unjudged c.in_ok-nothing.ensures.unjudged));
    }

pub returns-clause-taken : goal.returns-clause-taken
returns-clause-taken c =
    let whole = take_all c.loop-rx.rx-index c.args.ends.now c.loop-rx-test.false in
    let P : List Side → Type 0 = λ l. HaveTaken l l c.loop-rx.all.items in
    subst P whole c.loop-rx.invariant.taken
