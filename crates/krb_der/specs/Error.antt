-- The numbers and words of the errors.
use Rattle.std.specs.Prelude.{ℕ, List, codes}
use Rattle.krb_der.specs.declared.error.DerError.{DerError}
use Rattle.krb_der.specs.declared.error.DerError.TheVariants as errors

abbrev pub error_code : DerError → ℕ
error_code errors.TooLong = 1
error_code errors.Malformed = 2
error_code errors.Memory = 3

abbrev pub error_words : DerError → List ℕ
error_words errors.TooLong = codes "longer than a message may be"
error_words errors.Malformed = codes "not the DER encoding of a message"
error_words errors.Memory = codes "out of memory"
