-- What the code follows, and no part of the standard: messages side by side. Each word is a vector,
-- which has one lane for each message.
use Rattle.std.specs.Prelude.{ℕ, List, [], map, slice_index, slice_index_or}
use Rattle.std.specs.Borrow.{Bor}

-- the words of message j
abbrev pub lane : ℕ → List (List ℕ) → List ℕ
lane j vectors = map (λ v. slice_index v j) vectors

-- list j
abbrev pub message : ℕ → List (List ℕ) → List ℕ
message j messages = slice_index_or messages j []

-- the bytes of these slices
abbrev pub texts : List (Bor (List ℕ)) → List (List ℕ)
texts slices = map (λ s. s.now) slices
