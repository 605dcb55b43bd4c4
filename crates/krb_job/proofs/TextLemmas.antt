-- Whether two texts are the same.
use Rattle.std.proofs.Common.{◌≡◌, ℕ, nat_eq, List}
use lib.Pointwise.{pointwise}
use Rattle.std.proofs.lemmas.Cmp.{nat_list_eq_equiv}

pub same_turned : (a b : List ℕ) → pointwise nat_eq a b ≡ pointwise nat_eq b a
same_turned a b = nat_list_eq_equiv.symm a b
