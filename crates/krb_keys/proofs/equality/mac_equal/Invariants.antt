use Rattle.std.proofs.Common.{◌≡◌, ◌↔◌, length, take}
use Rattle.krb_keys.proofs.equality.mac_equal.Given as goal

-- no bit differs so far exactly where the codes agree so far
abbrev pub invariant-loop-x : goal.invariant-loop-x
invariant-loop-x l = (l.differing ≡ 0) ↔ (take (length l.yielded) l.a ≡ take (length l.yielded) l.b)
