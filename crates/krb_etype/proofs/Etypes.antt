-- The encryption types and their numbers.
use Rattle.std.proofs.Common.{◌≡◌, ℤ, true, Option, Some, refl, sym, ap, subst, ◌∙◌}
use Rattle.std.specs.Ordering.{int_eq}
use Rattle.std.proofs.lemmas.Bool.Decides.{Decides-int_eq}
use Rattle.krb_etype.specs.declared.etype.Etype.{Etype}
use Rattle.krb_etype.specs.declared.etype.Etype.TheVariants.{Aes128, Aes256}
use Rattle.krb_etype.specs.Etype.{number_of, checksum_number, etype_of, is_checksum_of}

pub etype_of_number : (etype : Etype) → etype_of (number_of etype) ≡ Some etype
etype_of_number Aes128 = refl
etype_of_number Aes256 = refl

same_type : (a b : Etype) → ◌≡◌ {A = Option Etype} (Some a) (Some b) → a ≡ b
same_type a b e = cc

-- no two types have one number
pub one_number : (a b : Etype) → number_of a ≡ number_of b → a ≡ b
one_number a b e = same_type a b (sym (etype_of_number a) ∙ ap etype_of e ∙ etype_of_number b)

pub int_is : (a b : ℤ) → a ≡ b → int_eq a b ≡ true
int_is a b e = (Decides-int_eq a b).1 e

pub checksum_is : (etype : Etype) (number : ℤ) → is_checksum_of (etype_of (number_of etype)) number ≡ int_eq number (checksum_number etype)
checksum_is etype number = ap (λ (of : Option Etype). is_checksum_of of number) (etype_of_number etype)

-- the checksum of the type that has a number
pub own_checksum : (etype : Etype) (number : ℤ) → number_of etype ≡ number → is_checksum_of (etype_of number) (checksum_number etype) ≡ true
own_checksum etype number known =
    subst (λ (z : ℤ). is_checksum_of (etype_of z) (checksum_number etype) ≡ true) known (checksum_is etype (checksum_number etype) ∙ int_is (checksum_number etype) (checksum_number etype) refl)
