-- What the keys of KRB-PRIV of one end are, and what is left of them once they are wiped.
use Rattle.std.specs.Prelude.{◌≡◌, ℕ, List}
use Rattle.krb_base.specs.Bytes.{AreZero}
use Rattle.krb_aes.specs.Keys.{expanded_key}
use Rattle.krb_keys.specs.MacKey.{HoldsKey, IsForgotten}
use Rattle.krb_etype.specs.Keys.{encryption_key, integrity_key}
use Rattle.krb_etype.specs.declared.private_keys.End.{End}
use Rattle.krb_etype.specs.declared.private_keys.End.TheVariants.{Sealer, Opener}
use Rattle.krb_etype.specs.declared.private_keys.RoundKeys.{RoundKeys}
use Rattle.krb_etype.specs.declared.private_keys.RoundKeys.TheVariants.{Enciphering, Deciphering}
use Rattle.krb_etype.specs.declared.private_keys.PrivateKeys.{PrivateKeys}

-- The round keys are of this end: a sealer enciphers, and an opener deciphers.
abbrev pub AreOf : End → RoundKeys → Type 0
AreOf Sealer (Enciphering words) = Unit {0}
AreOf Sealer (Deciphering words) = ⊥
AreOf Opener (Enciphering words) = ⊥
AreOf Opener (Deciphering words) = Unit {0}

-- The words of the expanded key.
abbrev pub words_of : RoundKeys → List ℕ
words_of (Enciphering words) = words
words_of (Deciphering words) = words

-- Ki and Ke of a session key, for this end.
pub record ArePrivateKeys (end : End) (key : List ℕ) (keys : PrivateKeys) : Type 0 where
  pub integrity : HoldsKey keys.integrity (integrity_key key)
  pub encryption : words_of keys.encryption ≡ expanded_key (encryption_key key)
  pub direction : AreOf end keys.encryption

-- Nothing is left of the keys.
pub record AreForgotten (keys : PrivateKeys) : Type 0 where
  pub integrity : IsForgotten keys.integrity
  pub encryption : AreZero (words_of keys.encryption)
