-- A session key has the size of its encryption type's keys.
use Rattle.std.specs.Prelude.{◌≡◌, length}
use Rattle.krb_etype.specs.Etype.{key_size}
use Rattle.krb_etype.specs.declared.session_key.SessionKey.TheInside.{Inside}

pub record HasItsSize (a : Inside) : Type 0 where
  pub size : length a.key ≡ key_size a.etype
