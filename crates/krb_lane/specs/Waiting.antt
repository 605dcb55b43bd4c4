-- How long a sender of a full lane waits before it looks again.
use Rattle.std.specs.Prelude.{ℕ, ◌*◌, ◌^◌, min}

-- microseconds
abbrev pub first_nap : ℕ
first_nap = 10

-- microseconds
abbrev pub longest_nap : ℕ
longest_nap = 5120

-- The microseconds of each nap from nap 0 on: twice as many as those of the one before it, up to the
-- longest.
abbrev pub nap_micros : ℕ → ℕ
nap_micros nap = min (first_nap * 2 ^ nap) longest_nap
