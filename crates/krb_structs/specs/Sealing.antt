-- What can be sealed, and in how many bytes.
use Rattle.std.specs.Prelude.{ℕ, ◌≡◌, ◌≤◌, false}
use Rattle.krb_base.specs.Limits.{user_data_limit}
use Rattle.krb_seal.specs.Sealer.{HasFrameSize, SealerState, end_of_numbers}
use Rattle.krb_structs.specs.declared.moment.KrbMoment.{KrbMoment}
use Rattle.krb_structs.specs.Moment.{IsMoment, micros_of}

-- n bytes of user data can be sealed at this timestamp: the frame has this size, and there is room for it
pub record CanPut (s : SealerState) (n at room : ℕ) : Type 0 where
  pub live : s.wiped ≡ false
  pub short : n ≤ user_data_limit
  pub left : ¬ (s.next ≡ end_of_numbers)
  pub size : ℕ
  pub sizes : HasFrameSize s n at size
  pub fits : size ≤ room

-- and this is a moment
pub record IsReady (s : SealerState) (n : ℕ) (at : KrbMoment) (room : ℕ) : Type 0 where
  pub unreserved : at.reserved ≡ 0
  pub is_moment : IsMoment at
  pub can : CanPut s n (micros_of at) room

-- n bytes of user data can be sealed at this moment, and each frame of so many that the sealer
-- makes next at it has this size
abbrev pub SizesNext : SealerState → ℕ → KrbMoment → ℕ → Type 0
SizesNext s n at size = (n ≤ user_data_limit) × IsMoment at × HasFrameSize s n (micros_of at) size
