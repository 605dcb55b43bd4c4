use Rattle.std.proofs.Common.{◌≡◌, ◌↔◌, ℕ, ◌+◌, ◌<◌, ◌≤◌, List, [], ◌∷◌, ◌++◌, length, take, get_or, bit_xor, bit_or, ap, ap₂, ◌∙◌, sym, arith}
use Rattle.std.specs.Int.Bits.{xor_assoc, xor_self, xor_zero_l, xor_zero_r}
use Rattle.std.proofs.lemmas.Nat.{le_or_l, le_or_r}
use Rattle.std.proofs.lemmas.List.{take_all, take_more, take-take, get_or-take}
use Rattle.std.proofs.lemmas.Slice.Zip.{zip_turn, zip_end}
use Rattle.std.proofs.Common.{length-append, rules}
use Rattle.krb_keys.proofs.equality.mac_equal.Goals as goal

same_bits : (x y : ℕ) → bit_xor x y ≡ 0 → x ≡ y
same_bits x y e =
    sym (xor_assoc x y y ∙ ap (bit_xor x) (xor_self y) ∙ xor_zero_r x) ∙ ap (λ (z : ℕ). bit_xor z y) e ∙ xor_zero_l y

or_zero : (d x : ℕ) → bit_or d x ≡ 0 → (d ≡ 0) × (x ≡ 0)
or_zero d x e = (omega (arith, le_or_l d x), omega (arith, le_or_r d x))

no_bits : (d x y : ℕ) → d ≡ 0 → x ≡ y → bit_or d (bit_xor x y) ≡ 0
no_bits d x y e f = ap₂ bit_or e (ap (λ (z : ℕ). bit_xor z y) f ∙ xor_self y)

step : (a b : List ℕ) (i d : ℕ) → i < length a → i < length b → ((d ≡ 0) ↔ (take i a ≡ take i b))
    → (bit_or d (bit_xor (get_or a i 0) (get_or b i 0)) ≡ 0) ↔ (take (i + 1) a ≡ take (i + 1) b)
step a b i d ha hb (there, back) = (
  λ e. let parts = or_zero d (bit_xor (get_or a i 0) (get_or b i 0)) e in
      take_more a i 0 ha ∙ ap₂ (λ (x : List ℕ) (y : ℕ). x ++ y ∷ []) (there parts.0) (same_bits _ _ parts.1)
      ∙ sym (take_more b i 0 hb),
  λ e. no_bits d (get_or a i 0) (get_or b i 0)
      (back (sym (take-take i (i + 1) a (omega arith)) ∙ ap (take i) e ∙ take-take i (i + 1) b (omega arith)))
      (sym (get_or-take (i + 1) a i 0 (omega arith)) ∙ ap (λ (x : List ℕ). get_or x i 0) e
      ∙ get_or-take (i + 1) b i 0 (omega arith)),
)

-- the places read are all of them
whole : (a b : List ℕ) (n d : ℕ) → length a ≤ n → length b ≤ n → ((d ≡ 0) ↔ (take n a ≡ take n b)) → (d ≡ 0) ↔ (a ≡ b)
whole a b n d ha hb h = rw (take_all n a ha, take_all n b hb) at h

pub loop-x-preserved : goal.loop-x-preserved
loop-x-preserved c =
    let turn =
    zip_turn c.args.a.now c.args.b.now c.loop-x.yielded c.into_iter-x-iterator.result c.loop-x.x-iterator c.next.new.self c.next.result
    (cc) (cc) c.loop-x.yielded_by (c.in-Some.x, c.in-Some.y) c.in-Some.is c.next.ensures.steps in
    rw (length-append, turn.2 0, turn.3 0) (step c.args.a.now c.args.b.now (length c.loop-x.yielded)
    c.loop-x.differing turn.0 turn.1 c.loop-x.invariant)

pub returns : goal.returns
returns c =
    let end =
    zip_end c.args.a.now c.args.b.now c.loop-x.yielded c.into_iter-x-iterator.result c.loop-x.x-iterator c.next.new.self c.next.result
    (cc) (cc) c.loop-x.yielded_by c.in-None.is c.next.ensures.steps in
    let same : (c.loop-x.differing ≡ 0) ↔ (c.args.a.now ≡ c.args.b.now) =
    whole c.args.a.now c.args.b.now (length c.loop-x.yielded) c.loop-x.differing (omega arith) (omega arith)
    c.loop-x.invariant in
    search rules
