-- Writes one after another.
use Rattle.std.proofs.lemmas.List.{take_all, length-drop, take-append-drop}
use Rattle.std.specs.Prelude.{◌==◌}
use Rattle.std.proofs.lemmas.Bool.Decides.{nat_tests}
use Rattle.std.proofs.Common.{true, false, None, Some, subst, ◌<◌, ◌∷◌, ◌+◌, ◌-◌, ◌≤◌, length, take, drop, arith, ◌≡◌, ℕ, List, [], ◌++◌, refl, sym, ap, ◌∙◌, append_assoc, append-nil, length-append, Option}
use Rattle.std.specs.Io.KnownBytes.{Appends, Keeps}
use Rattle.std.proofs.KnownBytes.{Appends-trans, Appends-kept, Appends-nil}
use Rattle.krb_base.specs.Prefix.{IsPrefix}
use Rattle.krb_commands.specs.Output.{AppendsPrefix, AppendsPart}

-- a prefix of a text stands after another
prefix_after : (done text whole front : List ℕ) → IsPrefix front text → (rest : List ℕ) → whole ≡ done ++ text ++ rest → IsPrefix (done ++ front) whole
prefix_after done text whole front q rest e = (
  q.0 ++ rest,
  e ∙ ap (λ t. done ++ t ++ rest) q.1 ∙ ap (λ l. l ++ rest) (sym (append_assoc done front q.0)) ∙ append_assoc (done ++ front) q.0 rest,
)

-- a text that was written whole, and a front of the next
pub AppendsPrefix-after : (a b c : Option (List ℕ)) (done text whole : List ℕ) → Appends a b done → AppendsPrefix b c text
    → (rest : List ℕ) → whole ≡ done ++ text ++ rest → AppendsPrefix a c whole
AppendsPrefix-after a b c done text whole p q rest e =
    (done ++ q.0, Appends-trans a b c done q.0 p q.1, prefix_after done text whole q.0 q.2 rest e)

pub AppendsPrefix-whole : (old now : Option (List ℕ)) (text : List ℕ) → Appends old now text → AppendsPrefix old now text
AppendsPrefix-whole old now text h = (text, h, ([], sym (append-nil text)))

pub AppendsPrefix-none : (a : Option (List ℕ)) (whole : List ℕ) → AppendsPrefix a a whole
AppendsPrefix-none a whole = ([], Appends-nil a, (whole, refl))

pub prefix_by_part : (a b : Option (List ℕ)) (text : List ℕ) → AppendsPart a b text → AppendsPrefix a b text
prefix_by_part a b text p = (p.0, p.1, p.2)

-- a text that was written whole, and only a prefix of the next
pub AppendsPart-after : (a b c : Option (List ℕ)) (done text whole : List ℕ) → Appends a b done → AppendsPart b c text
    → (rest : List ℕ) → whole ≡ done ++ text ++ rest → AppendsPart a c whole
AppendsPart-after a b c done text whole p q rest e =
    let short = q.3 in
    let size : length whole ≡ (length done + length text) + length rest = ap length e ∙ length-append (done ++ text) rest ∙ ap (λ n. n + length rest) (length-append done text) in (
      done ++ q.0,
      Appends-trans a b c done q.0 p q.1,
      prefix_after done text whole q.0 q.2 rest e,
      omega (arith, length-append done q.0, size, short),
    )

-- a writer took `count` bytes of what was left
pub wrote_more : (a b c : Option (List ℕ)) (done rest all : List ℕ) (count : ℕ) → Appends a b done → all ≡ done ++ rest → Appends b c (take count rest)
    → (x : List ℕ) × Appends a c x × (all ≡ x ++ take (length rest - count) (drop count rest))
wrote_more a b c done rest all count p e q =
    let short : length (drop count rest) ≤ length rest - count = rw (length-drop count rest) (omega arith) in (
      done ++ take count rest,
      Appends-trans a b c done (take count rest) p q,
      e ∙ ap (λ l. done ++ l) (sym (take-append-drop count rest)) ∙ sym (append_assoc done (take count rest) (drop count rest))
          ∙ ap (λ l. (done ++ take count rest) ++ l) (sym (take_all (length rest - count) (drop count rest) short)),
    )

-- ---- where the writing ends

not_empty : (rest : List ℕ) → false ≡ (length rest == 0) → 0 < length rest
not_empty [] h = absurd (let e : false ≡ true = h in cc)
not_empty (x ∷ xs) h = omega arith

pub kept_by_none : (a b : Option (List ℕ)) → Appends a b [] → Keeps a b
kept_by_none None b p = tt
kept_by_none (Some x) None p = absurd p
kept_by_none (Some x) (Some y) p = p ∙ append-nil x

-- the writer took nothing of what was left
pub wrote_part : (a b c : Option (List ℕ)) (done rest all : List ℕ) → Appends a b done → all ≡ done ++ rest
    → false ≡ (length rest == 0) → Keeps b c → AppendsPart a c all
wrote_part a b c done rest all p e left kept =
    (done, Appends-kept a b c done p kept, (rest, e), omega (arith, ap length e, length-append done rest, not_empty rest left))

is_zero : (n : ℕ) → true ≡ (n == 0) → n ≡ 0
is_zero n h = grind (arith, nat_tests)

-- and nothing is left
pub wrote_all : (a b : Option (List ℕ)) (done rest all : List ℕ) → Appends a b done → all ≡ done ++ rest
    → true ≡ (length rest == 0) → Appends a b all
wrote_all a b done [] all p e none = let P : List ℕ → Type 0 = λ l. Appends a b l in subst P (sym (e ∙ append-nil done)) p
wrote_all a b done (x ∷ xs) all p e none = absurd (let n : length (x ∷ xs) ≡ 0 = is_zero (length (x ∷ xs)) none in omega arith)
