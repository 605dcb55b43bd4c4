-- The numbers and words of a sealer's errors.
use Rattle.std.specs.Prelude.{ℕ, List, codes}
use Rattle.krb_seal.specs.declared.seal_error.SealError.{SealError}
use Rattle.krb_seal.specs.declared.seal_error.SealError.TheVariants.{Wiped, TooLong, Exhausted}
use Rattle.krb_seal.specs.declared.seal_error.SealError.TheVariants.{Memory}

abbrev pub code_of : SealError → ℕ
code_of Wiped = 1
code_of TooLong = 2
code_of Exhausted = 3
code_of Memory = 4

abbrev pub words_of : SealError → List ℕ
words_of Wiped = codes "the sealer was wiped"
words_of TooLong = codes "longer than the user data of a message may be"
words_of Exhausted = codes "no sequence number is left"
words_of Memory = codes "out of memory"
