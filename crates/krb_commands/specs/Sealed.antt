-- What `seal` prints.
use Rattle.std.specs.Prelude.{ℕ, ◌⊎◌, List, ◌++◌, Option}
use Rattle.std.specs.Io.KnownBytes.{Appends, Keeps}
use Rattle.krb_peers.specs.Sender.{Source}
use Rattle.krb_peers.specs.Wire.{IsWire}
use Rattle.krb_peers.specs.Sending.{sent_of}
use Rattle.krb_commands.specs.JobLines.{frame_lines, sent_line}
use Rattle.krb_commands.specs.Output.{AppendsPrefix}

-- the frames on the wire, one a line, and how much was sealed
abbrev pub sealed_text : Source → List (List ℕ) → List ℕ
sealed_text source emitted = frame_lines emitted ++ sent_line (sent_of source)

-- the wire carries what the plan makes of the frames of all records, and that is printed
abbrev pub PrintsSealed : Source → Option (List ℕ) → Option (List ℕ) → Type 0
PrintsSealed source old new =
    (emitted : List (List ℕ)) × IsWire source emitted × Appends old new (sealed_text source emitted)

-- a prefix of that is printed, or nothing
abbrev pub PrintsSealedPrefix : Source → Option (List ℕ) → Option (List ℕ) → Type 0
PrintsSealedPrefix source old new =
    Keeps old new
    ⊎ ((emitted : List (List ℕ)) × IsWire source emitted
    × AppendsPrefix old new (sealed_text source emitted))
