use Rattle.std.proofs.Common.{◌≡◌, ℕ, ◌+◌, ◌-◌, ◌*◌, ◌^◌, ◌≤◌, drop, take, length, get_or, ◌<◌}
use Rattle.krb_keys.specs.Nfold.{number}
use Rattle.krb_keys.proofs.fold.add_with_carry.Given as goal

-- the places from i on are added
abbrev pub invariant-loop-i : goal.invariant-loop-i
invariant-loop-i l = record {
  sum : number (drop l.i l.out) + l.left * 256 ^ (length l.fn.out - l.i)
      ≡ number (drop l.i l.fn.out) + number (drop l.i l.piece) + l.carry;
  before : take l.i l.out ≡ take l.i l.fn.out;
  small : l.left ≤ 1;
  fitted : number l.fn.out < 256 ^ length l.fn.out;
  bytes : (j : ℕ) → get_or l.out j 0 < 256;
}
