-- How the code keeps the rest of a message.
use Rattle.std.specs.Prelude.{◌≡◌, ℕ, ◌*◌, ◌/◌, ◌≤◌, List, length, take, drop}
use Rattle.krb_digests.specs.Rest.{padded_rest}

-- what follows the whole blocks of the rest
abbrev pub padded_end : List ℕ → List ℕ
padded_end rest = drop (length rest / 64 * 64) (padded_rest rest)

-- these are its first bytes
pub record HasItsEnd (rest end : List ℕ) (size : ℕ) : Type 0 where
  pub bytes : take size end ≡ padded_end rest
  pub fits : size ≤ 128
