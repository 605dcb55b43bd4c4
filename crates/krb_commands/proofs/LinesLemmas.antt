-- The lines of a list of items.
use Rattle.std.proofs.Common.{◌≡◌, ℕ, zero, suc, ◌+◌, ◌<◌, List, [], ◌∷◌, ◌++◌, length, map, take, drop, get_or, Option, refl, sym, ap, ◌∙◌, append-nil, arith}
use Rattle.std.proofs.lemmas.List.{take_more, take-append-drop, map-append}
use Rattle.std.proofs.lemmas.List.Folds.{concat-append}
use Rattle.std.specs.List.{concat}
use Rattle.std.specs.Io.KnownBytes.{Appends}
use Rattle.std.proofs.KnownBytes.{Appends-trans, Appends-nil}
use Rattle.krb_commands.specs.Output.{AppendsPart}
use Rattle.krb_commands.proofs.OutputLemmas.{AppendsPart-after}

-- what stands in a list
slice_at : {X : Type 0} (xs : List X) (i : ℕ) → i < length xs → (x : X) × (x ≡ get_or xs i x)
slice_at [] i lt = absurd (omega (arith, lt))
slice_at (x ∷ xs) zero lt = (x, refl)
slice_at (x ∷ xs) (suc i) lt = slice_at xs i (omega (arith, lt))

module _ {X : Type 0} (line : X → List ℕ) where
  lines-append : (xs ys : List X) → concat (map line (xs ++ ys)) ≡ concat (map line xs) ++ concat (map line ys)
  lines-append xs ys = ap concat (map-append line xs ys) ∙ concat-append (map line xs) (map line ys)

  -- the lines so far, and the next
  lines-more : (xs : List X) (i : ℕ) (x : X) → i < length xs → x ≡ get_or xs i x
      → concat (map line (take (i + 1) xs)) ≡ concat (map line (take i xs)) ++ line x
  lines-more xs i x lt is =
      ap (λ l. concat (map line l)) (take_more xs i x lt) ∙ lines-append (take i xs) (get_or xs i x ∷ [])
      ∙ ap (λ y. concat (map line (take i xs)) ++ (line y ++ [])) (sym is) ∙ ap (λ l. concat (map line (take i xs)) ++ l) (append-nil (line x))

  lines-cut : (xs : List X) (n : ℕ) → concat (map line xs) ≡ concat (map line (take n xs)) ++ concat (map line (drop n xs))
  lines-cut xs n = ap (λ l. concat (map line l)) (sym (take-append-drop n xs)) ∙ lines-append (take n xs) (drop n xs)

  pub printed-more : (old then now : Option (List ℕ)) (xs : List X) (i : ℕ) (x : X) → i < length xs → x ≡ get_or xs i x
      → Appends old then (concat (map line (take i xs))) → Appends then now (line x) → Appends old now (concat (map line (take (i + 1) xs)))
  printed-more old then now xs i x lt is done next =
      rw (lines-more xs i x lt is) (Appends-trans old then now (concat (map line (take i xs))) (line x) done next)

  pub printed-part : (old then now : Option (List ℕ)) (xs : List X) (i : ℕ) (x : X) → i < length xs → x ≡ get_or xs i x
      → Appends old then (concat (map line (take i xs))) → AppendsPart then now (line x) → AppendsPart old now (concat (map line xs))
  printed-part old then now xs i x lt is done next =
      AppendsPart-after old then now (concat (map line (take i xs))) (line x) (concat (map line xs)) done next
      (concat (map line (drop (i + 1) xs))) (lines-cut xs (i + 1) ∙ ap (λ l. l ++ concat (map line (drop (i + 1) xs))) (lines-more xs i x lt is))

  -- the lines so far alone, where each line has a byte
  pub printed-front : ((x : X) → 0 < length (line x)) → (old now : Option (List ℕ)) (xs : List X) (i : ℕ) → i < length xs
      → Appends old now (concat (map line (take i xs))) → AppendsPart old now (concat (map line xs))
  printed-front some old now xs i lt done =
      let at = slice_at xs i lt in
      printed-part old now now xs i at.0 lt at.1 done ([], Appends-nil now, (line at.0, refl), some at.0)
