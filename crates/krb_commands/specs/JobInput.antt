-- What a command's answer says of the input that it read, and of the output after a bad one.
use Rattle.std.specs.Prelude.{◌≡◌, ◌<◌, ◌≤◌, List, ℕ, length, Option, IfSome, OnOk, Result, Err}
use Rattle.std.specs.Io.KnownBytes.{Keeps}
use Rattle.krb_job.specs.declared.job.Command.{Command}
use Rattle.krb_job.specs.declared.bad_input.BadInput.{BadInput}
use Rattle.krb_commands.specs.declared.fault.Fault.{Fault}
use Rattle.krb_commands.specs.declared.fault.Fault.TheVariants as fault
use Rattle.krb_commands.specs.Input.{input_limit}
use Rattle.krb_commands.specs.Parsed.{Parsed, IsParsed}

-- A command answered this, of a reader that had this input left. `IsBad` says what is bad for the
-- command in what the input tells.
pub record ReadsInput {X : Type 0} (command : Command) (input : Option (List ℕ))
    (IsBad : Parsed → BadInput → Type 0) (answer : Result X Fault) : Type 0 where
  -- without a fault, the input has no more bytes than it may have
  pub within : OnOk answer (IfSome input (λ bytes. length bytes ≤ input_limit))
  -- it has more, if this is the fault
  pub too_long : answer ≡ Err fault.TooLong → IfSome input (λ bytes. input_limit < length bytes)
  -- this is bad in it, if it is the fault
  pub bad_input : (parsed : Parsed) → IsParsed command input parsed → (bad : BadInput)
      → answer ≡ Err (fault.BadInput bad) → IsBad parsed bad

-- A command answered this, and its writer holds what it held if the input can't be read or is bad.
pub record PrintsNothing {X : Type 0} (old new : Option (List ℕ)) (answer : Result X Fault)
    : Type 0 where
  -- a check that isn't passed, or a bad plan
  pub bad_input : (bad : BadInput) → answer ≡ Err (fault.BadInput bad) → Keeps old new
  -- more bytes than an input may have
  pub too_long : answer ≡ Err fault.TooLong → Keeps old new
  -- the reader failed
  pub read_fault : answer ≡ Err fault.Read → Keeps old new

-- this check isn't passed
abbrev pub FailsCheck : Parsed → BadInput → Type 0
FailsCheck parsed bad = parsed ≡ Err bad
