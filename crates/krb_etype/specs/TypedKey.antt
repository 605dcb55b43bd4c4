-- What contracts see of a session key: its encryption type and its bytes.
use Rattle.std.specs.Prelude.{ℕ, List}
use Rattle.krb_etype.specs.declared.etype.Etype.{Etype}

pub record TypedKey : Type 0 where
  pub etype : Etype
  pub bytes : List ℕ

abbrev pub typed_key : Etype → List ℕ → TypedKey
typed_key etype bytes = record { etype = etype; bytes = bytes }
