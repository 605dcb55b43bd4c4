-- What each command does, by the bytes that its reader has left, and the exit statuses.
use Rattle.std.specs.Prelude.{◌≡◌, ◌⊎◌, ◌<◌, List, ℕ, codes, length, Option, Some, None, IfSome}
use Rattle.std.specs.Prelude.{Result, Ok, Err, if◌then◌else◌, ok_or, option_map, ⊤}
use Rattle.std.specs.Prelude.{Bool, true, false}
use Rattle.std.specs.Str.{bytes_eq}
use Rattle.std.specs.Io.KnownBytes.{Appends, Keeps}
use Rattle.krb_job.specs.declared.job.Command.TheVariants as job
use Rattle.krb_job.specs.declared.bad_input.BadInput.{BadInput}
use Rattle.krb_commands.specs.declared.fault.Fault.{Fault}
use Rattle.krb_commands.specs.declared.fault.Fault.TheVariants as fault
use Rattle.krb_commands.specs.declared.fault.KeyFault.{KeyFault}
use Rattle.krb_commands.specs.declared.fault.KeyFault.TheVariants.{Missing, NoKey, NoType, OtherType, Unreadable}
use Rattle.krb_commands.specs.declared.form.Form.{Form}
use Rattle.krb_commands.specs.Fault.{fault_status}
use Rattle.krb_commands.specs.Input.{input_limit}
use Rattle.krb_commands.specs.Output.{AppendsPrefix}
use Rattle.krb_commands.specs.Key.{HasOtherType, IsStated, key_in}
use Rattle.krb_commands.specs.Show.{Shows, ShowsPrefix}
use Rattle.krb_commands.specs.Vectors.{vectors_text}
use Rattle.krb_etype.specs.declared.etype.Etype.{Etype}
use Rattle.krb_etype.specs.declared.etype.Etype.TheVariants.{Aes128, Aes256}
use Rattle.krb_etype.specs.TypedKey.{TypedKey}
use Rattle.clap.specs.Words.{Text}
use Rattle.krb_program.specs.Command.{text_behind}
use Rattle.krb_program.specs.declared.command.Asked.{Asked}
use Rattle.krb_program.specs.declared.command.Cmd.{Cmd}
use Rattle.krb_program.specs.declared.command.Cmd.TheVariants.{Show, Vectors, Seal, Open, Relay}
use Rattle.krb_commands.specs.Parsed.{Parsed, IsParsed}
use Rattle.krb_commands.specs.Jobs.{SealsParsed, SealsParsedPrefix, IsBadToSeal}
use Rattle.krb_commands.specs.Jobs.{OpensParsed, OpensParsedFirst, OpensParsedPrefix}
use Rattle.krb_commands.specs.Jobs.{OpensPlain, OpensPlainPrefix}
use Rattle.krb_program.specs.RelayedJob.{RelaysParsed, RelaysParsedPrefix, StopsParsed}
use Rattle.krb_program.specs.RelayedJob.{IsBadToRelay}

-- all that the command is to write is written, and this is the status
abbrev pub Does : Cmd → Form → Option (List ℕ) → Option (List ℕ) → Option (List ℕ) → ℕ → Type 0
Does Show form input old new status = IfSome input (λ bytes. Shows form None bytes old new status)
Does Vectors form input old new status = Appends old new vectors_text × (status ≡ 0)
Does Seal form input old new status =
    (parsed : Parsed) → IsParsed job.Seal input parsed → SealsParsed parsed old new × (status ≡ 0)
Does Open form input old new status =
    (parsed : Parsed) → IsParsed job.Open input parsed → OpensParsed parsed old new status
Does Relay form input old new status =
    (parsed : Parsed) → IsParsed job.Relay input parsed → RelaysParsed parsed old new status

-- a prefix of it
abbrev pub DoesPrefix : Cmd → Form → Option (List ℕ) → Option (List ℕ) → Option (List ℕ) → Type 0
DoesPrefix Show form input old new = IfSome input (λ bytes. ShowsPrefix form None bytes old new)
DoesPrefix Vectors form input old new = AppendsPrefix old new vectors_text
DoesPrefix Seal form input old new =
    (parsed : Parsed) → IsParsed job.Seal input parsed → SealsParsedPrefix parsed old new
DoesPrefix Open form input old new =
    (parsed : Parsed) → IsParsed job.Open input parsed → OpensParsedPrefix parsed old new
DoesPrefix Relay form input old new =
    (parsed : Parsed) → IsParsed job.Relay input parsed → RelaysParsedPrefix parsed old new

-- the run stopped while frames were taken, and so many lines are written: their outcome until then
abbrev pub DoesFirst : Cmd → ℕ → Option (List ℕ) → Option (List ℕ) → Option (List ℕ) → Type 0
DoesFirst Show lines input old new = ⊥
DoesFirst Vectors lines input old new = ⊥
DoesFirst Seal lines input old new = ⊥
DoesFirst Open lines input old new =
    (parsed : Parsed) → IsParsed job.Open input parsed → OpensParsedFirst parsed lines old new
DoesFirst Relay lines input old new =
    (parsed : Parsed) → IsParsed job.Relay input parsed → StopsParsed parsed lines old new

-- this is what is bad in a job
abbrev pub IsBadInput : Cmd → Option (List ℕ) → BadInput → Type 0
IsBadInput Show input bad = ⊥
IsBadInput Vectors input bad = ⊥
IsBadInput Seal input bad = (parsed : Parsed) → IsParsed job.Seal input parsed → IsBadToSeal parsed bad
IsBadInput Open input bad = (parsed : Parsed) → IsParsed job.Open input parsed → parsed ≡ Err bad
IsBadInput Relay input bad = (parsed : Parsed) → IsParsed job.Relay input parsed → IsBadToRelay parsed bad

-- What a run of the command does: all, or after a fault a prefix of it, and nothing where the input
-- can't be read or is bad.
abbrev pub HasRun : Cmd → Form → Option (List ℕ) → Option (List ℕ) → Option (List ℕ)
    → Result ℕ Fault → Type 0
HasRun command form input old new (Ok status) = Does command form input old new status
HasRun command form input old new (Err fault.TooLong) =
    IfSome input (λ bytes. input_limit < length bytes) × Keeps old new
HasRun command form input old new (Err (fault.BadInput bad)) =
    IsBadInput command input bad × Keeps old new
HasRun command form input old new (Err (fault.Key key)) = ⊥
HasRun command form input old new (Err fault.Memory) = DoesPrefix command form input old new
HasRun command form input old new (Err (fault.Stopped lines)) = DoesFirst command lines input old new
HasRun command form input old new (Err (fault.Thread lines)) = DoesFirst command lines input old new
HasRun command form input old new (Err fault.Read) = Keeps old new
HasRun command form input old new (Err fault.Write) = DoesPrefix command form input old new

-- this is the key of a file, and of the type that is stated
abbrev pub IsKeyOf : Option Etype → Option (List ℕ) → TypedKey → Type 0
IsKeyOf stated file key =
    IfSome file (λ bytes. key_in bytes ≡ Some key) × IsStated stated key.etype

-- why the file gives no key
abbrev pub HasNoKey : Option Etype → Option (List ℕ) → KeyFault → Type 0
HasNoKey stated file NoKey = IfSome file (λ bytes. key_in bytes ≡ None)
HasNoKey stated file OtherType = IfSome file (HasOtherType stated)
HasNoKey stated file Unreadable = ⊤
HasNoKey stated file Missing = ⊤
HasNoKey stated file NoType = ⊤

-- a prefix of what is shown under the key of a file, or nothing
abbrev pub ShowsPrefixUnder : Form → Option Etype → Option (List ℕ) → Option (List ℕ)
    → Option (List ℕ) → Option (List ℕ) → Type 0
ShowsPrefixUnder form stated file input old new =
    Keeps old new
    ⊎ ((key : TypedKey) × IsKeyOf stated file key
    × IfSome input (λ bytes. ShowsPrefix form (Some key) bytes old new))

-- What a run of `show` under the key of a file does, by the bytes that the file and the reader have
-- left: all, or after a fault a prefix of it, and nothing where there is no key.
abbrev pub HasShown : Form → Option Etype → Option (List ℕ) → Option (List ℕ) → Option (List ℕ)
    → Option (List ℕ) → Result ℕ Fault → Type 0
HasShown form stated file input old new (Ok status) =
    (key : TypedKey) × IsKeyOf stated file key
    × IfSome input (λ bytes. Shows form (Some key) bytes old new status)
HasShown form stated file input old new (Err fault.TooLong) =
    IfSome input (λ bytes. input_limit < length bytes) × Keeps old new
HasShown form stated file input old new (Err (fault.BadInput bad)) = ⊥
HasShown form stated file input old new (Err (fault.Key key)) = HasNoKey stated file key × Keeps old new
HasShown form stated file input old new (Err fault.Memory) = ShowsPrefixUnder form stated file input old new
HasShown form stated file input old new (Err (fault.Stopped lines)) = ⊥
HasShown form stated file input old new (Err (fault.Thread lines)) = ⊥
HasShown form stated file input old new (Err fault.Read) = Keeps old new
HasShown form stated file input old new (Err fault.Write) = ShowsPrefixUnder form stated file input old new

-- the type that a text names by its number
abbrev pub etype_named : Text → Option Etype
etype_named text =
    if bytes_eq text (codes "17") then Some Aes128 else
    if bytes_eq text (codes "18") then Some Aes256 else None

-- the type that an option states, if it is there
abbrev pub stated_of : Option Text → Result (Option Etype) KeyFault
stated_of None = Ok None
stated_of (Some text) = ok_or (option_map (λ etype. Some etype) (etype_named text)) NoType

-- the options of a key are refused, and nothing is written
abbrev pub IsRefused : KeyFault → Option (List ℕ) → Option (List ℕ) → Result ℕ Fault → Type 0
IsRefused key old new outcome =
    ((outcome ≡ Err (fault.Key key)) ⊎ (outcome ≡ Err fault.Write)) × Keeps old new

-- `show` was run under the key of a file, of the type that is stated
abbrev pub HasShownFile : Form → Result (Option Etype) KeyFault → Option (List ℕ) → Option (List ℕ)
    → Option (List ℕ) → Result ℕ Fault → Type 0
HasShownFile form (Ok stated) input old new outcome =
    (file : Option (List ℕ)) × HasShown form stated file input old new outcome
HasShownFile form (Err key) input old new outcome = IsRefused key old new outcome

-- a prefix of what `open --plain` prints, or nothing
abbrev pub OpensPlainFront : Option (List ℕ) → Option (List ℕ) → Option (List ℕ) → Type 0
OpensPlainFront input old new =
    (parsed : Parsed) → IsParsed job.Open input parsed → OpensPlainPrefix parsed old new

-- What a run of `open --plain` does: all, or after a fault a prefix of it, and nothing where the
-- input can't be read or is bad.
abbrev pub HasOpenedPlain : Option (List ℕ) → Option (List ℕ) → Option (List ℕ) → Result ℕ Fault
    → Type 0
HasOpenedPlain input old new (Ok status) =
    (parsed : Parsed) → IsParsed job.Open input parsed → OpensPlain parsed old new status
HasOpenedPlain input old new (Err fault.TooLong) =
    IfSome input (λ bytes. input_limit < length bytes) × Keeps old new
HasOpenedPlain input old new (Err (fault.BadInput bad)) = IsBadInput Open input bad × Keeps old new
HasOpenedPlain input old new (Err (fault.Key key)) = ⊥
HasOpenedPlain input old new (Err fault.Memory) = OpensPlainFront input old new
HasOpenedPlain input old new (Err (fault.Stopped lines)) = ⊥
HasOpenedPlain input old new (Err (fault.Thread lines)) = ⊥
HasOpenedPlain input old new (Err fault.Read) = Keeps old new
HasOpenedPlain input old new (Err fault.Write) = OpensPlainFront input old new

-- `open` was run, with its option or without
abbrev pub HasOpened : Bool → Form → Option (List ℕ) → Option (List ℕ) → Option (List ℕ)
    → Result ℕ Fault → Type 0
HasOpened true form input old new outcome = HasOpenedPlain input old new outcome
HasOpened false form input old new outcome = HasRun Open form input old new outcome

-- A command was run, by its options: `show` in a form, and under the key of a file where one is
-- named, and `open` plain or not.
abbrev pub HasServed : Cmd → Form → Option Text → Option Text → Bool → Option (List ℕ)
    → Option (List ℕ) → Option (List ℕ) → Result ℕ Fault → Type 0
HasServed Show form None None plain input old new outcome = HasRun Show form input old new outcome
HasServed Show form None (Some etype) plain input old new outcome = IsRefused Missing old new outcome
HasServed Show form (Some path) etype plain input old new outcome =
    HasShownFile form (stated_of etype) input old new outcome
HasServed Vectors form key etype plain input old new outcome =
    HasRun Vectors form input old new outcome
HasServed Seal form key etype plain input old new outcome = HasRun Seal form input old new outcome
HasServed Open form key etype plain input old new outcome =
    HasOpened plain form input old new outcome
HasServed Relay form key etype plain input old new outcome = HasRun Relay form input old new outcome

-- what is done that a command line asks
abbrev pub HasObeyed : Asked → Option (List ℕ) → Option (List ℕ) → Option (List ℕ) → Result ℕ Fault
    → Type 0
HasObeyed asked input old new outcome =
    HasServed asked.command asked.form (text_behind asked.key) (text_behind asked.etype)
    asked.plain input old new outcome

-- the exit status of a run
abbrev pub status_of : Result ℕ Fault → ℕ
status_of (Ok status) = status
status_of (Err fault) = fault_status fault
