-- The definition of n-fold, computed at vectors of RFC 3961, appendix A.1.
use Rattle.std.proofs.Common.{◌≡◌, codes, refl}
use Rattle.std.specs.Int.{bytes_high_first}
use Rattle.krb_keys.specs.Nfold.{number, lcm, rotated, repeated, sum_of_pieces, end_around, nfold}

nfold_64 : nfold 8 (codes "012345") ≡ bytes_high_first 8 0xbe072631276b1955
unfolding number lcm rotated repeated sum_of_pieces end_around nfold
nfold_64 = refl

nfold_56 : nfold 7 (codes "password") ≡ bytes_high_first 7 0x78a07b6caf85fa
unfolding number lcm rotated repeated sum_of_pieces end_around nfold
nfold_56 = refl

nfold_128 : nfold 16 (codes "kerberos") ≡ bytes_high_first 16 0x6b65726265726f737b9b5b2b93132b93
unfolding number lcm rotated repeated sum_of_pieces end_around nfold
nfold_128 = refl

nfold_192 : nfold 24 (codes "MASSACHVSETTS INSTITVTE OF TECHNOLOGY")
    ≡ bytes_high_first 24 0xdb3b0d8f0b061e603282b308a50841229ad798fab9540c1b
unfolding number lcm rotated repeated sum_of_pieces end_around nfold
nfold_192 = refl
