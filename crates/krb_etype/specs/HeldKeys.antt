-- What contracts see of a session key with the keys derived from it.
use Rattle.std.specs.Prelude.{◌≡◌, ℕ, List, length, replicate, Bool, true, false}
use Rattle.krb_etype.specs.declared.keys.Purpose.{Purpose}
use Rattle.krb_etype.specs.declared.keys.Purpose.TheVariants.{Encryption}
use Rattle.krb_etype.specs.declared.private_keys.End.{End}
use Rattle.krb_etype.specs.declared.private_keys.End.TheVariants.{Sealer}

-- The session key, the end and the purpose that its keys serve, and whether all were wiped.
pub record HeldKeys : Type 0 where
  pub key : List ℕ
  pub end : End
  pub purpose : Purpose
  pub wiped : Bool

abbrev pub fresh_keys : List ℕ → End → Purpose → HeldKeys
fresh_keys key end purpose = record { key = key; end = end; purpose = purpose; wiped = false }

abbrev pub keys_for : HeldKeys → Purpose → HeldKeys
keys_for keys purpose = record keys { purpose = purpose }

abbrev pub wiped_keys : HeldKeys → HeldKeys
wiped_keys keys = record keys { key = replicate (length keys.key) 0; wiped = true }

-- They are a sealer's live keys for encryption.
abbrev pub IsEnciphering : HeldKeys → Type 0
IsEnciphering keys = keys ≡ fresh_keys keys.key Sealer Encryption
