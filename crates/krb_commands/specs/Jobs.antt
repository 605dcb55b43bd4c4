-- What the commands that read a job of one sender do, for each input.
use Rattle.std.specs.Prelude.{◌≡◌, ◌⊎◌, List, ℕ, Option, Some, Err}
use Rattle.std.specs.Io.KnownBytes.{Keeps}
use Rattle.krb_peers.specs.Sender.{Source}
use Rattle.krb_peers.specs.Wire.{IsBad}
use Rattle.krb_job.specs.declared.bad_input.BadInput.{BadInput}
use Rattle.krb_job.specs.SenderKeys.{Sender}
use Rattle.krb_commands.specs.Fault.{bad_plan}
use Rattle.krb_commands.specs.Sealed.{PrintsSealed, PrintsSealedPrefix}
use Rattle.krb_commands.specs.Opened.{PrintsFirst, PrintsOpened, PrintsOpenedPrefix}
use Rattle.krb_commands.specs.Plain.{PrintsPlain, PrintsPlainPrefix}
use Rattle.krb_commands.specs.Ends.{source_stated, receiver_of}
use Rattle.krb_commands.specs.Parsed.{Parsed, HasOneSender}

-- what a sender seals is printed
abbrev pub SealsSender : Sender → Option (List ℕ) → Option (List ℕ) → Type 0
SealsSender sender old new =
    (source : Source) × (source_stated sender ≡ Some source) × PrintsSealed source old new

-- a prefix of that, or nothing
abbrev pub SealsSenderPrefix : Sender → Option (List ℕ) → Option (List ℕ) → Type 0
SealsSenderPrefix sender old new =
    Keeps old new
    ⊎ ((source : Source) × (source_stated sender ≡ Some source) × PrintsSealedPrefix source old new)

-- its plan is bad for its frames
abbrev pub IsBadSender : Sender → Type 0
IsBadSender sender = (source : Source) × (source_stated sender ≡ Some source) × IsBad source

-- what the one sender of the job seals is printed
abbrev pub SealsParsed : Parsed → Option (List ℕ) → Option (List ℕ) → Type 0
SealsParsed parsed old new = (sender : Sender) × HasOneSender parsed sender × SealsSender sender old new

abbrev pub SealsParsedPrefix : Parsed → Option (List ℕ) → Option (List ℕ) → Type 0
SealsParsedPrefix parsed old new =
    Keeps old new ⊎ ((sender : Sender) × HasOneSender parsed sender × SealsSenderPrefix sender old new)

-- a check that isn't passed, or a plan that names what the frames don't have
abbrev pub IsBadToSeal : Parsed → BadInput → Type 0
IsBadToSeal parsed bad =
    (parsed ≡ Err bad)
    ⊎ ((bad ≡ bad_plan 0) × ((sender : Sender) × HasOneSender parsed sender × IsBadSender sender))

-- the outcome of each frame of the job's one sender is printed, and this is the status
abbrev pub OpensParsed : Parsed → Option (List ℕ) → Option (List ℕ) → ℕ → Type 0
OpensParsed parsed old new status =
    (sender : Sender) × HasOneSender parsed sender
    × PrintsOpened (receiver_of sender) sender.traffic.nows sender.traffic.frames old new status

-- a prefix of that, or nothing
abbrev pub OpensParsedPrefix : Parsed → Option (List ℕ) → Option (List ℕ) → Type 0
OpensParsedPrefix parsed old new =
    Keeps old new
    ⊎ ((sender : Sender) × HasOneSender parsed sender
    × PrintsOpenedPrefix (receiver_of sender) sender.traffic.nows sender.traffic.frames old new)

-- so many lines are printed: the outcome of the first frames
abbrev pub OpensParsedFirst : Parsed → ℕ → Option (List ℕ) → Option (List ℕ) → Type 0
OpensParsedFirst parsed lines old new =
    (sender : Sender) × HasOneSender parsed sender
    × PrintsFirst (receiver_of sender) sender.traffic.nows sender.traffic.frames lines old new

-- the same of user data that are no records
abbrev pub OpensPlain : Parsed → Option (List ℕ) → Option (List ℕ) → ℕ → Type 0
OpensPlain parsed old new status =
    (sender : Sender) × HasOneSender parsed sender
    × PrintsPlain (receiver_of sender) sender.traffic.nows sender.traffic.frames old new status

abbrev pub OpensPlainPrefix : Parsed → Option (List ℕ) → Option (List ℕ) → Type 0
OpensPlainPrefix parsed old new =
    Keeps old new
    ⊎ ((sender : Sender) × HasOneSender parsed sender
    × PrintsPlainPrefix (receiver_of sender) sender.traffic.nows sender.traffic.frames old new)
