-- Why nothing is sent on a lane.
use Rattle.std.specs.Prelude.{◌≡◌, ℕ, true, false, List, ◌++◌, codes}
use Rattle.std.specs.Fmt.{decimal}
use Rattle.krb_peers.specs.declared.start.StartError.{StartError}
use Rattle.krb_peers.specs.declared.start.StartError.TheVariants.{Memory, BadPlan, Wiped}
use Rattle.krb_peers.specs.Sender.{Source}
use Rattle.krb_peers.specs.Wire.{IsBad}

-- the reason of an error, if this is the sender of the lane
abbrev pub IsReason : Source → ℕ → StartError → Type 0
IsReason source lane Memory = Unit {0}
IsReason source lane (BadPlan at) = (at ≡ lane) × (source.sealer.wiped ≡ false) × IsBad source
IsReason source lane (Wiped at) = (at ≡ lane) × (source.sealer.wiped ≡ true)

-- the number of an error
abbrev pub code_of : StartError → ℕ
code_of Memory = 1
code_of (BadPlan lane) = 2
code_of (Wiped lane) = 3

-- what is printed of it
abbrev pub words_of : StartError → List ℕ
words_of Memory = codes "out of memory"
words_of (BadPlan lane) =
    codes "the plan of lane " ++ decimal lane ++ codes " names what its frames don't have"
words_of (Wiped lane) = codes "the sealer of lane " ++ decimal lane ++ codes " was wiped"
