use Rattle.std.proofs.Common.{◌≡◌, ◌++◌, map, take, drop, bit_xor}
use Rattle.krb_keys.proofs.mac_key.mask.Given as goal

abbrev pub invariant-loop-b : goal.invariant-loop-b
invariant-loop-b l = l.block ≡ map (λ b. bit_xor b l.byte) (take l.b-index l.fn.block) ++ drop l.b-index l.fn.block
