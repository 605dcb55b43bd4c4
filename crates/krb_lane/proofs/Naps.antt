-- The naps of a sender of a full lane.
use Rattle.std.proofs.Common.{◌≡◌, ◌≤◌, ℕ, ◌*◌, ◌%◌, inl, inr, arith}
use Rattle.std.specs.Prelude.{◌^◌, min}
use Rattle.std.proofs.Math.Pow.{pow_mono}
use Rattle.std.proofs.lemmas.Bool.{cases_lt}
use Rattle.krb_lane.specs.Waiting.{longest_nap, nap_micros}

-- Nap 9 is the longest: what is doubled more often is cut to it.
pub capped : (nap doubled : ℕ) → doubled ≡ min nap 9 → (10 * 2 ^ doubled) % 18446744073709551616 ≡ nap_micros nap
capped nap doubled is = elim (cases_lt nap 9) [
  | inl short ↦
      let same : doubled ≡ nap = omega (arith, is) in
      let bound : 2 ^ nap ≤ 512 = pow_mono {i = nap} {j = 9} (omega (arith, short)) in
      rw same (omega (arith, bound))
  | inr long ↦
      let most : doubled ≡ 9 = omega (arith, is) in
      let bound : 512 ≤ 2 ^ nap = pow_mono {i = 9} {j = nap} long in
      rw most (omega (arith, bound))
]

pub bounded : (nap doubled : ℕ) → doubled ≡ min nap 9 → (10 * 2 ^ doubled) % 18446744073709551616 ≤ longest_nap
bounded nap doubled is = rw (capped nap doubled is) (omega arith)
