-- The first line of a text, and the lines of what follows it.
use Rattle.std.proofs.Common.{◌≡◌, ℕ, ◌+◌, ◌-◌, ◌<◌, ◌≤◌, suc, Bool, true, false, not, cond, List, [], ◌∷◌, length, take, drop, refl, sym, ap, ◌∙◌, arith, Some, None, nat_lt}
use Rattle.std.proofs.lemmas.Bool.{ltb-true, ltb-false}
use Rattle.std.proofs.lemmas.List.{take_all, length-drop}
use Rattle.std.specs.List.{position, position_or_len, slice_split, onto_first}
use Rattle.krb_commands.specs.Lines.{lines_of, counted, is_line_feed}

pub lines_of-nil : lines_of [] ≡ []
unfolding lines_of
lines_of-nil = refl

-- the byte at the front of the first line, or a line of its own where there is none
abbrev in_front : ℕ → List (List ℕ) → List (List ℕ)
in_front byte [] = (byte ∷ []) ∷ []
in_front byte (line ∷ lines) = (byte ∷ line) ∷ lines

counted-onto_first : (x : ℕ) (pieces : List (List ℕ)) → counted (onto_first x pieces) ≡ in_front x (counted pieces)
counted-onto_first x [] = refl
counted-onto_first x ([] ∷ []) = refl
counted-onto_first x ((y ∷ piece) ∷ []) = refl
counted-onto_first x ([] ∷ next ∷ pieces) = refl
counted-onto_first x ((y ∷ piece) ∷ next ∷ pieces) = refl

-- an empty first piece is counted, since another piece follows it
some_piece : (b : Bool) (x : ℕ) (pieces : List (List ℕ))
    → counted ([] ∷ cond b ([] ∷ pieces) (onto_first x pieces)) ≡ [] ∷ counted (cond b ([] ∷ pieces) (onto_first x pieces))
some_piece true x pieces = refl
some_piece false x [] = refl
some_piece false x (piece ∷ pieces) = refl

counted-split : (xs : List ℕ) → counted ([] ∷ slice_split is_line_feed xs) ≡ [] ∷ counted (slice_split is_line_feed xs)
counted-split [] = refl
counted-split (x ∷ xs) = some_piece (is_line_feed x) x (slice_split is_line_feed xs)

cut_step : (b : Bool) (x : ℕ) (xs : List ℕ)
    → counted (cond b ([] ∷ slice_split is_line_feed xs) (onto_first x (slice_split is_line_feed xs)))
    ≡ cond b ([] ∷ counted (slice_split is_line_feed xs)) (in_front x (counted (slice_split is_line_feed xs)))
cut_step true x xs = counted-split xs
cut_step false x xs = counted-onto_first x (slice_split is_line_feed xs)

-- the lines, byte by byte
lines_of-cons : (x : ℕ) (xs : List ℕ) → lines_of (x ∷ xs) ≡ cond (is_line_feed x) ([] ∷ lines_of xs) (in_front x (lines_of xs))
unfolding lines_of
lines_of-cons x xs = cut_step (is_line_feed x) x xs

first_step : (b : Bool) (x : ℕ) (xs : List ℕ) (p : ℕ)
    → (p < length xs → lines_of xs ≡ take p xs ∷ lines_of (drop (p + 1) xs))
    → cond (not b) (1 + p) 0 < length (x ∷ xs)
    → cond b ([] ∷ lines_of xs) (in_front x (lines_of xs))
    ≡ take (cond (not b) (1 + p) 0) (x ∷ xs) ∷ lines_of (drop (cond (not b) (1 + p) 0 + 1) (x ∷ xs))
first_step true x xs p ih lt = refl
first_step false x xs p ih lt =
    let h = ih (omega arith) in
    let e : 1 + p ≡ suc p = omega arith in
    let e2 : 1 + p + 1 ≡ suc (p + 1) = omega arith in
    rw (h, e2, e) refl

-- a line feed ends the first line
lines_of-first : (xs : List ℕ) → position_or_len is_line_feed xs < length xs
    → lines_of xs ≡ take (position_or_len is_line_feed xs) xs ∷ lines_of (drop (position_or_len is_line_feed xs + 1) xs)
lines_of-first [] lt = absurd (omega arith)
lines_of-first (x ∷ xs) lt =
    lines_of-cons x xs ∙ first_step (is_line_feed x) x xs (position_or_len is_line_feed xs) (λ h. lines_of-first xs h) lt

abbrev only_line : List ℕ → List (List ℕ)
only_line [] = []
only_line (x ∷ xs) = (x ∷ xs) ∷ []

in_front-only_line : (x : ℕ) (xs : List ℕ) → in_front x (only_line xs) ≡ (x ∷ xs) ∷ []
in_front-only_line x [] = refl
in_front-only_line x (y ∷ ys) = refl

last_step : (b : Bool) (x : ℕ) (xs : List ℕ) (p : ℕ)
    → (length xs ≤ p → lines_of xs ≡ only_line xs)
    → length (x ∷ xs) ≤ cond (not b) (1 + p) 0
    → cond b ([] ∷ lines_of xs) (in_front x (lines_of xs)) ≡ (x ∷ xs) ∷ []
last_step true x xs p ih le = absurd (omega arith)
last_step false x xs p ih le = ap (in_front x) (ih (omega arith)) ∙ in_front-only_line x xs

-- a text without a line feed is its only line, where it isn't empty
lines_of-last : (xs : List ℕ) → length xs ≤ position_or_len is_line_feed xs → lines_of xs ≡ only_line xs
lines_of-last [] le = lines_of-nil
lines_of-last (x ∷ xs) le =
    lines_of-cons x xs ∙ last_step (is_line_feed x) x xs (position_or_len is_line_feed xs) (λ h. lines_of-last xs h) le

found_step : (b : Bool) (p i : ℕ) → cond b (Some p) None ≡ Some i → (b ≡ true) × (p ≡ i)
found_step true p i e = (refl, cc)
found_step false p i e = absurd cc

missed_step : (b : Bool) (p : ℕ) → cond b (Some p) None ≡ None → b ≡ false
missed_step true p e = absurd cc
missed_step false p e = refl

pub lines_of-found : (text : List ℕ) (end : ℕ) → position is_line_feed text ≡ Some end
    → lines_of text ≡ take end text ∷ lines_of (take (length text - (end + 1)) (drop (end + 1) text))
lines_of-found text end e =
    let found = found_step (nat_lt (position_or_len is_line_feed text) (length text)) (position_or_len is_line_feed text) end e in
    let first = lines_of-first text (ltb-true (position_or_len is_line_feed text) (length text) found.0) in
    let short : length (drop (end + 1) text) ≤ length text - (end + 1) = rw (length-drop (end + 1) text) (omega arith) in
    let whole = take_all (length text - (end + 1)) (drop (end + 1) text) short in
    first ∙ ap (λ p. take p text ∷ lines_of (drop (p + 1) text)) found.1 ∙ ap (λ rest. take end text ∷ lines_of rest) (sym whole)

pub lines_of-missed : (text : List ℕ) → 0 < length text → position is_line_feed text ≡ None → lines_of text ≡ text ∷ lines_of []
lines_of-missed [] some e = absurd (omega arith)
lines_of-missed (x ∷ xs) some e =
    let missed = missed_step (nat_lt (position_or_len is_line_feed (x ∷ xs)) (length (x ∷ xs))) (position_or_len is_line_feed (x ∷ xs)) e in
    lines_of-last (x ∷ xs) (ltb-false (position_or_len is_line_feed (x ∷ xs)) (length (x ∷ xs)) missed)
    ∙ ap (λ lines. (x ∷ xs) ∷ lines) (sym lines_of-nil)

pub lines_of-empty : (text : List ℕ) → length text ≡ 0 → lines_of text ≡ []
lines_of-empty [] e = lines_of-nil
lines_of-empty (x ∷ xs) e = absurd cc
