-- What an input tells a command: a job, or the first check that the input doesn't pass.
use Rattle.std.specs.Prelude.{◌≡◌, Bool, true, false, List, ℕ, [], ◌∷◌, Option, Some, None, Result}
use Rattle.std.specs.Prelude.{Ok, Err}
use Rattle.std.specs.Str.{is_utf8}
use Rattle.toml.specs.Data.{Members}
use Rattle.toml.specs.Parse.{parse_document}
use Rattle.krb_job.specs.declared.job.Command.{Command}
use Rattle.krb_job.specs.declared.bad_input.BadInput.{BadInput}
use Rattle.krb_job.specs.declared.bad_input.BadInput.TheVariants as bad
use Rattle.krb_job.specs.Job.{Job, job_of}
use Rattle.krb_job.specs.SenderKeys.{Sender}

abbrev pub Parsed : Type 0
Parsed = Result Job BadInput

-- by whether the bytes are UTF-8, and the document that they spell
abbrev pub parsed_at : Command → Bool → Option Members → Parsed
parsed_at command true (Some ms) = job_of command ms
parsed_at command true None = Err bad.Toml
parsed_at command false document = Err bad.Toml

-- what the bytes of an input tell a command
unfoldable pub parsed_of : Command → List ℕ → Parsed
parsed_of command bytes = parsed_at command (is_utf8 bytes) (parse_document bytes)

-- the same of the bytes that a reader has left, where they are known
abbrev pub IsParsed : Command → Option (List ℕ) → Parsed → Type 0
IsParsed command None parsed = ⊥
IsParsed command (Some bytes) parsed = parsed ≡ parsed_of command bytes

-- the input is a job of one sender
pub record HasOneSender (parsed : Parsed) (sender : Sender) : Type 0 where
  pub job : Job
  pub parsed_is : parsed ≡ Ok job
  pub one : job.senders ≡ sender ∷ []
