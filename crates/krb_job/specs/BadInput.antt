-- What is printed of a job that can't be read.
use Rattle.std.specs.Prelude.{ℕ, List, ◌++◌, codes}
use Rattle.std.specs.Fmt.{decimal}
use Rattle.krb_job.specs.declared.bad_input.BadInput.{BadInput}
use Rattle.krb_job.specs.declared.bad_input.BadInput.TheVariants as bad
use Rattle.krb_job.specs.declared.bad_input.JobError.{JobError}
use Rattle.krb_job.specs.declared.bad_input.JobError.TheVariants as errors
use Rattle.krb_job.specs.Place.{name_of}

abbrev pub code_of : JobError → ℕ
code_of (errors.Bad b) = 1
code_of errors.Memory = 2

abbrev pub words_of : BadInput → List ℕ
words_of bad.Toml = codes "toml"
words_of bad.Capacity = codes "capacity"
words_of bad.Sender = codes "sender"
words_of bad.UnknownKey = codes "unknown key"
words_of (bad.InSender j place) = codes "sender " ++ decimal j ++ codes ": " ++ name_of place

abbrev pub error_words : JobError → List ℕ
error_words (errors.Bad b) = codes "bad input: " ++ words_of b
error_words errors.Memory = codes "out of memory"
