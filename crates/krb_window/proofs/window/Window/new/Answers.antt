use Rattle.std.proofs.Common.{◌≡◌, ℕ, ◌+◌, ◌-◌, ◌<◌, ◌≤◌, ◌⊎◌, ◌^◌, arith, inl, inr, refl}
use Rattle.std.proofs.lemmas.Bool.{cases_lt}
use Rattle.std.proofs.lemmas.Nat.Bits.{bit_at_ones}
use Rattle.krb_window.specs.declared.window.Window.{Window}
use Rattle.krb_window.specs.Window.{IsTaken, IsTooOld}
use Rattle.krb_window.proofs.window.Window.new.Goals as goal

all_below : (w : Window) (first : ℕ) → 0 < first → w.highest ≡ first - 1 → w.taken ≡ 2 ^ 64 - 1 → (n : ℕ) → n < first → IsTaken w n ⊎ IsTooOld w n
all_below w first some top all n below = by_age (cases_lt w.highest (n + 64))
  where
    by_age : (w.highest < n + 64) ⊎ (n + 64 ≤ w.highest) → IsTaken w n ⊎ IsTooOld w n
    by_age (inr old) = inr old
    by_age (inl near) =
        let place = 63 - (w.highest - n) in
        let low : place < 64 = omega arith in
        inl (record { below = omega arith; recent = near; bit = rw all (bit_at_ones 64 place low) })

pub returns : goal.returns
returns c = record {
  below = λ n below. all_below _ c.args.first (omega arith) refl refl n below;
  above = λ n above t. absurd (let below : n ≤ c.args.first - 1 = t.below in omega arith);
  highest = omega arith;
}
