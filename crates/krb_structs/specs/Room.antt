-- How much room a frame takes.
use Rattle.std.specs.Prelude.{◌≡◌, ℕ, ◌+◌, ◌≤◌, min, List, length}
use Rattle.krb_base.specs.Limits.{frame_limit}
use Rattle.krb_seal.specs.Session.{HasShortAddresses}
use Rattle.krb_seal.specs.Sealer.{SealerState, SealsNext}

-- the bytes of a sealed frame around its user data, at most
abbrev pub frame_overhead : ℕ
frame_overhead = 416

-- the room for a frame with n bytes of user data
abbrev pub frame_room : ℕ → ℕ
frame_room n = min (n + frame_overhead) frame_limit

-- each frame that a sealer makes of n bytes fits
abbrev pub FitsFrames : ℕ → ℕ → Type 0
FitsFrames n room = (s : SealerState) (user : List ℕ) (at : ℕ) (conf frame : List ℕ)
    → HasShortAddresses s.session → length user ≡ n → SealsNext s user at conf frame
    → length frame ≤ room
