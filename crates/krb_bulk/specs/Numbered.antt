-- Of sealing a message at a number by a sealer that is wiped or not.
use Rattle.std.specs.Prelude.{◌≡◌, ℕ, ◌<◌, ◌≤◌, length, Bool, true, false}
use Rattle.krb_base.specs.Limits.{last_number, user_data_limit}
use Rattle.krb_seal.specs.declared.seal_error.SealError.{SealError}
use Rattle.krb_seal.specs.declared.seal_error.SealError.TheVariants as errors
use Rattle.krb_bulk.specs.declared.unsealed.Unsealed.{Unsealed}

-- One of so many bytes of user data can be sealed.
pub record CanSealSize (wiped : Bool) (number len : ℕ) : Type 0 where
  pub live : wiped ≡ false
  pub short : len ≤ user_data_limit
  pub left : number ≤ last_number

abbrev pub CanSealAt : Bool → ℕ → Unsealed → Type 0
CanSealAt wiped number m = CanSealSize wiped number (length m.user_data.now)

-- Why it can't be.
abbrev pub RefusesSize : Bool → ℕ → ℕ → SealError → Type 0
RefusesSize wiped number len errors.Wiped = wiped ≡ true
RefusesSize wiped number len errors.TooLong = (wiped ≡ false) × (user_data_limit < len)
RefusesSize wiped number len errors.Exhausted =
    (wiped ≡ false) × (len ≤ user_data_limit) × (last_number < number)
RefusesSize wiped number len errors.Memory = ⊥

abbrev pub RefusesAt : Bool → ℕ → Unsealed → SealError → Type 0
RefusesAt wiped number m = RefusesSize wiped number (length m.user_data.now)
