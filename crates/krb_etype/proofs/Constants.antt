-- The constants of key derivation, n-folded: computed from the definition of n-fold.
use Rattle.std.proofs.Common.{◌≡◌, ℕ, List, refl, ap}
use Rattle.krb_keys.specs.Nfold.{number, lcm, rotated, repeated, sum_of_pieces, end_around, nfold}
use Rattle.krb_keys.specs.Derivation.{constant, dk, dr}
use Rattle.krb_etype.specs.declared.derived.TheConstants.{CHECKSUM_CONSTANT, ENCRYPTION_CONSTANT, INTEGRITY_CONSTANT}

pub checksum_folded : CHECKSUM_CONSTANT ≡ nfold 16 (constant 15 0x99)
unfolding number lcm rotated repeated sum_of_pieces end_around nfold
checksum_folded = refl

pub encryption_folded : ENCRYPTION_CONSTANT ≡ nfold 16 (constant 13 0xAA)
unfolding number lcm rotated repeated sum_of_pieces end_around nfold
encryption_folded = refl

pub integrity_folded : INTEGRITY_CONSTANT ≡ nfold 16 (constant 13 0x55)
unfolding number lcm rotated repeated sum_of_pieces end_around nfold
integrity_folded = refl

-- DR of a folded constant is DK
pub is_dk : (key folded : List ℕ) (usage tail : ℕ) → folded ≡ nfold 16 (constant usage tail) → dr key folded ≡ dk key usage tail
unfolding dk
is_dk key folded usage tail e = ap (dr key) e
