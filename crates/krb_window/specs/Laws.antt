-- What a window does over any numbers.
use Rattle.std.specs.Prelude.{◌≡◌, ℕ, ◌+◌, ◌<◌, ◌≤◌, ◌⊎◌, List, [], ◌∷◌, ◌≢◌, Bool, true, false}
use Rattle.std.specs.List.{AllPairs, Contains}
use Rattle.krb_window.specs.declared.window.Window.{Window}
use Rattle.krb_window.specs.Window.{IsTaken, IsTooOld, Takes, TakesNoneBelow, window_size}

-- A number that is offered, and whether it was taken.
pub record Offer : Type 0 where
  pub number : ℕ
  pub taken : Bool

-- the window takes it, or stays as it is since it was taken or is too old
abbrev pub Answers : Window → ℕ → Bool → Window → Type 0
Answers old n true new = Takes old n new
Answers old n false new = (new ≡ old) × (IsTaken old n ⊎ IsTooOld old n)

-- the window answers the offers, one after another
abbrev pub AnswersAll : Window → List Offer → Window → Type 0
AnswersAll old [] new = new ≡ old
AnswersAll old (offer ∷ offers) new =
    (mid : Window) × Answers old offer.number offer.taken mid × AnswersAll mid offers new

-- the numbers that were taken
abbrev pub with_taken : Bool → ℕ → List ℕ → List ℕ
with_taken true n ns = n ∷ ns
with_taken false n ns = ns

abbrev pub taken_of : List Offer → List ℕ
taken_of [] = []
taken_of (offer ∷ offers) = with_taken offer.taken offer.number (taken_of offers)

-- None is taken twice.
abbrev pub TakenOnce : Type 0
TakenOnce = (old new : Window) (offers : List Offer) → AnswersAll old offers new
    → AllPairs (λ m n. m ≢ n) (taken_of offers)

-- Each number that a new window took is in it or is too old. Of those from its first number on, each
-- that is in it was taken, and each that is too old is 64 or more below one that was. Those below its
-- first number are as if taken or too old, and none of them is ever taken.
abbrev pub IsExact : Type 0
IsExact = (first : ℕ) (old new : Window) (offers : List Offer) → TakesNoneBelow first old
    → AnswersAll old offers new
    → ((n : ℕ) → Contains (taken_of offers) n → IsTaken new n ⊎ IsTooOld new n)
    × ((n : ℕ) → first ≤ n → IsTaken new n → Contains (taken_of offers) n)
    × ((n : ℕ) → first ≤ n → IsTooOld new n
    → (m : ℕ) × Contains (taken_of offers) m × (n + window_size ≤ m))
    × ((n : ℕ) → n < first
    → (IsTaken new n ⊎ IsTooOld new n) × ¬ Contains (taken_of offers) n)
