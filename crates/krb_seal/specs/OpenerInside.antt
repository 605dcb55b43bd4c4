-- What an opener keeps of its keys: they are those of an opener for the mode that it expects, and the
-- session key has its type's size. Once they are wiped, the session key is zeros.
use Rattle.std.specs.Prelude.{◌≡◌, true, length}
use Rattle.krb_base.specs.Bytes.{AreZero}
use Rattle.krb_etype.specs.Etype.{key_size}
use Rattle.krb_etype.specs.declared.private_keys.End.TheVariants as ends
use Rattle.krb_seal.specs.Mode.{purpose_of}
use Rattle.krb_seal.specs.declared.opener.Opener.TheInside.{Inside}

pub record HasKeys (a : Inside) : Type 0 where
  pub size : length a.keys.key ≡ key_size a.etype
  pub end : a.keys.end ≡ ends.Opener
  pub purpose : a.keys.purpose ≡ purpose_of a.expect.mode
  pub zeros : a.keys.wiped ≡ true → AreZero a.keys.key
