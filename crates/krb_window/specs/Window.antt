-- Which numbers a window took.
use Rattle.std.specs.Prelude.{◌≡◌, ℕ, ◌+◌, ◌-◌, ◌<◌, ◌≤◌, ◌⊎◌, max}
use Rattle.std.specs.Int.{bit_at}
use Rattle.krb_window.specs.declared.window.Window.{Window}

-- how many numbers a window distinguishes
abbrev pub window_size : ℕ
window_size = 64

-- The number was taken, and is less than 64 below the highest.
pub record IsTaken (w : Window) (n : ℕ) : Type 0 where
  pub below : n ≤ w.highest
  pub recent : w.highest < n + window_size
  pub bit : bit_at w.taken (63 - (w.highest - n)) ≡ 1

-- It is 64 or more below the highest number that was taken.
abbrev pub IsTooOld : Window → ℕ → Type 0
IsTooOld w n = n + window_size ≤ w.highest

-- A window takes a number, which it hadn't taken, and is the new one then: its numbers are this one and
-- those from before, but for what is too old now.
pub record Takes (old : Window) (number : ℕ) (new : Window) : Type 0 where
  pub fresh : ¬ IsTaken old number
  pub recent : ¬ IsTooOld old number
  pub highest : new.highest ≡ max old.highest number
  pub is_in : IsTaken new number
  pub kept : (n : ℕ) → IsTaken old n → IsTaken new n ⊎ IsTooOld new n
  pub only : (n : ℕ) → IsTaken new n → (n ≡ number) ⊎ IsTaken old n

-- all numbers below the first are as if taken, and none from it on
pub record TakesNoneBelow (first : ℕ) (w : Window) : Type 0 where
  pub below : (n : ℕ) → n < first → IsTaken w n ⊎ IsTooOld w n
  pub above : (n : ℕ) → first ≤ n → ¬ IsTaken w n
  pub highest : w.highest ≤ first

-- The highest number rises by so many, and is taken; each other bit stays that of its number, and
-- those of the numbers between aren't set.
pub record Moves (old : Window) (ahead : ℕ) (new : Window) : Type 0 where
  pub highest : new.highest ≡ old.highest + ahead
  pub newest : bit_at new.taken 63 ≡ 1
  pub others : (i : ℕ) → i < 63 → bit_at new.taken i ≡ bit_at old.taken (i + ahead)
  pub between : (i : ℕ) → i < 63 → 64 ≤ i + ahead → bit_at new.taken i ≡ 0

-- The bit of the number so far below the highest is set, and no other changes.
pub record Marks (old : Window) (back : ℕ) (new : Window) : Type 0 where
  pub highest : new.highest ≡ old.highest
  pub set : bit_at new.taken (63 - back) ≡ 1
  pub others : (i : ℕ) → ¬ (i ≡ 63 - back) → bit_at new.taken i ≡ bit_at old.taken i
