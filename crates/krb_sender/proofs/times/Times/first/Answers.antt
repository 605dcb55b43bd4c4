use Rattle.std.proofs.Common.{◌≡◌, ◌≢◌, ◌+◌, ◌*◌, ◌≤◌, ◌∙◌, ℕ, List, ap, subst, sym, arith}
use Rattle.krb_sender.specs.Times.{time_of, never, IsFirst}
use Rattle.krb_sender.proofs.TimesLemmas.{below_right, root_first}
use Rattle.krb_sender.proofs.times.Times.first.Goals as goal

pub loop-self-preserved : goal.loop-self-preserved
loop-self-preserved c =
    let at : List ℕ = c.self.inside.at.items in
    let least : List ℕ = c.self.inside.least.items in
    let own : c.time_at.result ≡ time_of at c.loop-self.place = c.time_at.ensures ∙ ap (λ (l : List ℕ). time_of l c.loop-self.place) c.deref.ensures.value in
    let all : c.time_at-in-loop-self.result ≡ time_of least c.loop-self.place = c.time_at-in-loop-self.ensures ∙ ap (λ (l : List ℕ). time_of l c.loop-self.place) c.deref-in-loop-self.ensures.value in
    let left : c.time_at-in-loop-self-2.result ≡ time_of least (2 * c.loop-self.place + 1) = c.time_at-in-loop-self-2.ensures ∙ ap (λ (l : List ℕ). time_of l (2 * c.loop-self.place + 1)) c.deref-in-loop-self-2.ensures.value in
    let again : c.time_at-in-loop-self-3.result ≡ time_of least c.loop-self.place = c.time_at-in-loop-self-3.ensures ∙ ap (λ (l : List ℕ). time_of l c.loop-self.place) c.deref-in-loop-self-3.ensures.value in
    let most : time_of at c.loop-self.place ≤ never = omega (arith, own, c.time_at.type_inv) in
    let apart : time_of at c.loop-self.place ≢ time_of least c.loop-self.place = λ same. c.loop-self-test.true (own ∙ same ∙ sym all) in
    let apart_left : time_of least (2 * c.loop-self.place + 1) ≢ time_of least c.loop-self.place = λ same. c.if-time_at.false (left ∙ same ∙ sym again) in
    let both = below_right at least c.loop-self.place c.self.invariant c.loop-self.invariant.there apart apart_left most in
    record {
      there = both.0;
      root = both.1 ∙ c.loop-self.invariant.root;
    }

pub returns-clause-some : goal.returns-clause-some
returns-clause-some c =
    let at : List ℕ = c.self.inside.at.items in
    let least : List ℕ = c.self.inside.least.items in
    let own : c.time_at.result ≡ time_of at c.loop-self.place = c.time_at.ensures ∙ ap (λ (l : List ℕ). time_of l c.loop-self.place) c.deref.ensures.value in
    let all : c.time_at-in-loop-self.result ≡ time_of least c.loop-self.place = c.time_at-in-loop-self.ensures ∙ ap (λ (l : List ℕ). time_of l c.loop-self.place) c.deref-in-loop-self.ensures.value in
    let same : time_of at c.loop-self.place ≡ time_of least 0 = sym own ∙ c.loop-self-test.false ∙ all ∙ c.loop-self.invariant.root in
    subst (λ (l : List ℕ). IsFirst l c.loop-self.place) c.self.view_is (record {
      there = c.loop-self.invariant.there;
      first = λ other. omega (arith, same, root_first at least c.self.invariant.nodes other);
    })
