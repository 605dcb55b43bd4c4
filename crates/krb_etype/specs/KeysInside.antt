-- The keys beside a session key are those derived from it, for each purpose that was asked for, until
-- all of them are wiped.
use Rattle.std.specs.Prelude.{◌≡◌, true, false, IfSome, MatchOption}
use Rattle.krb_base.specs.Bytes.{AreZero}
use Rattle.krb_keys.specs.BatchMac.{HoldsBatchKey, IsBatchForgotten}
use Rattle.krb_keys.specs.MacKey.{HoldsKey, IsForgotten}
use Rattle.krb_etype.specs.declared.keys.Purpose.TheVariants.{Checksum, Encryption}
use Rattle.krb_etype.specs.CodeKey.{code_key}
use Rattle.krb_etype.specs.Keys.{checksum_key}
use Rattle.krb_etype.specs.PrivateKeys.{AreForgotten, ArePrivateKeys}
use Rattle.krb_etype.specs.declared.keys.Keys.TheInside.{Inside}

pub record AreDerived (a : Inside) : Type 0 where
  pub checksum : a.wiped ≡ false
      → MatchOption a.checksum (a.purpose ≡ Encryption) (λ key. HoldsKey key (checksum_key a.base))
  pub private : a.wiped ≡ false
      → MatchOption a.private (a.purpose ≡ Checksum) (λ keys. ArePrivateKeys a.end a.base keys)
  pub batch : a.wiped ≡ false
      → IfSome a.batch (λ key. HoldsBatchKey key (code_key a.purpose a.base))
  pub no_base : a.wiped ≡ true → AreZero a.base
  pub no_checksum : a.wiped ≡ true → IfSome a.checksum IsForgotten
  pub no_private : a.wiped ≡ true → IfSome a.private AreForgotten
  pub no_batch : a.wiped ≡ true → IfSome a.batch IsBatchForgotten
