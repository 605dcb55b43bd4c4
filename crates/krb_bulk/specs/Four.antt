-- Four of a kind.
use Rattle.std.specs.Prelude.{ℕ, ◌+◌}
use Rattle.krb_bulk.specs.declared.four.Four.{Four}

-- Each of four is what belongs to one of the indices from this one on.
pub record AreFrom {T : Type 0} (P : ℕ → T → Type 0) (from : ℕ) (four : Four T) : Type 0 where
  pub a : P from four.a
  pub b : P (from + 1) four.b
  pub c : P (from + 2) four.c
  pub d : P (from + 3) four.d

-- Each of four has this.
pub record AreEach {T : Type 0} (P : T → Type 0) (four : Four T) : Type 0 where
  pub a : P four.a
  pub b : P four.b
  pub c : P four.c
  pub d : P four.d

-- Each of four has this beside another.
pub record AreBoth {S T : Type 0} (P : S → T → Type 0) (one : Four S) (other : Four T)
    : Type 0 where
  pub a : P one.a other.a
  pub b : P one.b other.b
  pub c : P one.c other.c
  pub d : P one.d other.d
