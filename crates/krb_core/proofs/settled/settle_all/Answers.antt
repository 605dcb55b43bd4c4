-- One receiver more.
use Rattle.std.proofs.Common.{◌≡◌, ℕ, zero, suc, ◌+◌, ◌<◌, List, [], ◌∷◌, ◌++◌, length, take, drop, get_or, refl, sym, ap, ◌∙◌, arith, rules}
use Rattle.std.proofs.lemmas.List.{take_more, length-set, drop-set-lt}
use Rattle.krb_core.proofs.settled.settle_all.Goals as goal

-- of two lists that are the same from a place on, what stands there, and what follows
same_at : {A : Type 0} (i : ℕ) (xs ys : List A) (d : A) → length xs ≡ length ys → drop i xs ≡ drop i ys → get_or xs i d ≡ get_or ys i d
same_at zero xs ys d len e = ap (λ l. get_or l 0 d) e
same_at (suc i) [] [] d len e = refl
same_at (suc i) [] (y ∷ ys) d len e = absurd (omega (arith, len))
same_at (suc i) (x ∷ xs) [] d len e = absurd (omega (arith, len))
same_at (suc i) (x ∷ xs) (y ∷ ys) d len e = same_at i xs ys d (omega (arith, len)) e

same_rest : {A : Type 0} (i : ℕ) (xs ys : List A) → length xs ≡ length ys → drop i xs ≡ drop i ys → drop (i + 1) xs ≡ drop (i + 1) ys
same_rest zero xs ys len e = ap (λ l. drop (zero + 1) l) e
same_rest (suc i) [] [] len e = refl
same_rest (suc i) [] (y ∷ ys) len e = absurd (omega (arith, len))
same_rest (suc i) (x ∷ xs) [] len e = absurd (omega (arith, len))
same_rest (suc i) (x ∷ xs) (y ∷ ys) len e = let s : suc i + 1 ≡ suc (i + 1) = omega arith in rw s (same_rest i xs ys (omega (arith, len)) e)

pub loop-lane-preserved : goal.loop-lane-preserved
loop-lane-preserved c =
    let given = c.args.receivings.items in
    let old = c.loop-lane.receivers.items.items in
    let i = c.loop-lane.lane in
    let here = c.index_mut.result.now in
    let before = c.loop-lane.invariant in
    let within : i < length given = first_of (omega arith, search rules) in
    let taken : c.in_ok-block.block.value ≡ here = search rules in
    let pushed : c.push.new.self.items ≡ c.loop-lane.settled.items ++ c.in_ok-block.block.value ∷ [] = search rules in
    let element : c.in_ok-block.block.value ≡ get_or given i here = taken ∙ (c.index_mut.ensures.value ∙ same_at i old given here before.count before.others) in
    record {
      settled = pushed ∙ (ap (λ l. l ++ c.in_ok-block.block.value ∷ []) before.settled ∙ (ap (λ r. take i given ++ r ∷ []) element ∙ sym (take_more given i here within)));
      others = drop-set-lt (i + 1) old i _ (omega arith) ∙ same_rest i old given before.count before.others;
      count = length-set old i _ ∙ before.count;
    }
