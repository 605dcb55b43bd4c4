use Rattle.std.proofs.Common.{ℕ, List, ◌++◌, take}
use Rattle.sha1.specs.Sha1.{Holds}
use Rattle.krb_keys.specs.Hmac.{joined}
use Rattle.krb_keys.proofs.mac_key.MacKey.hmac_sha1.Given as goal

-- the inner hash has taken in the parts so far
abbrev pub invariant-loop-part : goal.invariant-loop-part
invariant-loop-part l = (m : List ℕ) → Holds l.self.inner m → Holds l.inner (m ++ joined (take l.part-index l.parts))
