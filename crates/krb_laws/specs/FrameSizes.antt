-- There are the frames of whose sizes clauses on room speak.
use Rattle.std.specs.Prelude.{◌≡◌, ◌≤◌, ℕ, List, length}
use Rattle.krb_base.specs.Limits.{last_number, user_data_limit}
use Rattle.krb_der.specs.Moment.{last_moment}
use Rattle.krb_etype.specs.declared.etype.Etype.{Etype}
use Rattle.krb_etype.specs.Etype.{number_of}
use Rattle.krb_seal.specs.Exists.{HasHosts}
use Rattle.krb_seal.specs.Sealer.{HasFrameSize, SealerState, SealsNext}
use Rattle.krb_structs.specs.Room.{FitsFrames}

-- a frame of n bytes of user data at the sealer's next number and this timestamp
pub record NextFrame (s : SealerState) (n at : ℕ) : Type 0 where
  pub user : List ℕ
  pub confounder : List ℕ
  pub frame : List ℕ
  pub long : length user ≡ n
  pub seals : SealsNext s user at confounder frame

-- The sealer has a key of one of the types, addresses and a number left, and so many bytes can be
-- sealed at this timestamp.
pub record CanSealNext (s : SealerState) (n at : ℕ) : Type 0 where
  pub etype : Etype
  pub known : number_of etype ≡ s.etype
  pub hosts : HasHosts s.session
  pub left : s.next ≤ last_number
  pub moment : at ≤ last_moment
  pub few : n ≤ user_data_limit

-- the size that all such frames have is that of one
abbrev pub OneHasTheSize : Type 0
OneHasTheSize =
    (s : SealerState) (n at size : ℕ) → CanSealNext s n at → HasFrameSize s n at size
    → (it : NextFrame s n at) × (length it.frame ≡ size)

-- so they have one size
abbrev pub OneFrameSize : Type 0
OneFrameSize =
    (s : SealerState) (n at size other : ℕ) → CanSealNext s n at
    → HasFrameSize s n at size → HasFrameSize s n at other → size ≡ other

-- and one fits in the room in which all of so many bytes fit
abbrev pub OneFits : Type 0
OneFits =
    (s : SealerState) (n at room : ℕ) → CanSealNext s n at → FitsFrames n room
    → (it : NextFrame s n at) × (length it.frame ≤ room)
