-- Both openers have one key, each for its kind of message.
use Rattle.std.specs.Prelude.{◌≡◌}
use Rattle.krb_etype.specs.TypedKey.{typed_key}
use Rattle.krb_seal.specs.declared.session.Mode.TheVariants.{Safe, Priv}
use Rattle.krb_commands.specs.Key.{opener_under}
use Rattle.krb_commands.specs.declared.openers.Openers.TheInside.{Inside}

pub record HasOneKey (a : Inside) : Type 0 where
  pub safe : a.safe ≡ opener_under (typed_key a.etype a.safe.key) Safe
  pub private : a.private ≡ opener_under (typed_key a.etype a.safe.key) Priv
