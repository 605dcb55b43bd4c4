-- The keys by which frames are opened are live, and an opener's for the mode that is expected.
use Rattle.std.specs.Prelude.{◌≡◌}
use Rattle.krb_etype.specs.declared.private_keys.End.TheVariants.{Opener}
use Rattle.krb_seal.specs.Mode.{purpose_of}
use Rattle.krb_seal.specs.declared.opening.Opening.TheInside.{Inside}
use Rattle.krb_etype.specs.HeldKeys.{fresh_keys}

pub record HasLiveKeys (a : Inside) : Type 0 where
  pub keys : a.keys.now ≡ fresh_keys a.keys.now.key Opener (purpose_of a.expect.now.mode)
