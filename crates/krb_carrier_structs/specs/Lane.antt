-- A shard of a sender with all its sessions, of C's.
use Rattle.std.specs.Prelude.{◌≡◌, ℕ, ◌==◌, List, Option, Some, None, if◌then◌else◌}
use Rattle.krb_sender.specs.declared.lane.Served.{Served}
use Rattle.krb_sender.specs.declared.session.Heard.{Heard}
use Rattle.krb_sender.specs.declared.session.Heard.TheVariants as hears
use Rattle.krb_sender.specs.declared.session.Own.{Own}
use Rattle.krb_sender.specs.declared.session.Own.TheVariants as owns
use Rattle.krb_sender.specs.declared.session.Row.{Row}
use Rattle.krb_sender.specs.declared.session.Turn.{Turn}
use Rattle.krb_sender.specs.declared.session.Turn.TheVariants.{Does, Held}
use Rattle.krb_carrier_structs.specs.declared.command.KrbCommand.{KrbCommand}
use Rattle.krb_carrier_structs.specs.declared.lane.KrbStored.{KrbStored}
use Rattle.krb_carrier_structs.specs.declared.lane.KrbServed.{KrbServed}
use Rattle.krb_carrier_structs.specs.Command.{command_told}

abbrev pub told_row : KrbStored → Row
told_row r = record { next = r.next; carried = r.carried; at = r.at; done = r.done; list = r.list }

-- the struct of a turn: what is to be done, or that the session's opening is held
abbrev pub turn_told : Turn → KrbCommand
turn_told (Does command) = command_told command
turn_told Held = record { number = 0; count = 0; at = 0; kind = 4; opening = 0 }

abbrev pub served_told : Served → KrbServed
served_told s = record {
  command = turn_told s.turn;
  place = s.place;
  is_moved = if s.is_moved then 1 else 0;
}

-- the digest of an outbox's own frames: it is this, there is none, or it can't be read now
abbrev pub own_of : ℕ → List ℕ → Option Own
own_of n history =
    if n == 1 then Some (owns.Known history)
    else (if n == 2 then Some owns.Unknown else (if n == 3 then Some owns.Fault else None))

-- what a session of a shard finds by a receipt
abbrev pub lane_heard_number : Heard → ℕ
lane_heard_number hears.Nothing = 0
lane_heard_number hears.Delivered = 1
lane_heard_number hears.Ended = 2
lane_heard_number hears.Again = 3
