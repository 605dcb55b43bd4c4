-- What a sender is to do, of C's.
use Rattle.std.specs.Prelude.{◌≡◌, ℕ, Bool, if◌then◌else◌}
use Rattle.krb_engine.specs.declared.sending.Command.{Command}
use Rattle.krb_engine.specs.declared.sending.Command.TheVariants.{Publish, Probe, Wake, Idle}
use Rattle.krb_carrier_structs.specs.declared.command.KrbCommand.{KrbCommand}

-- the struct of a command: what it doesn't speak of is 0
abbrev pub command_told : Command → KrbCommand
command_told (Publish from count) =
    record { number = from; count = count; at = 0; kind = 1; opening = 0 }
command_told (Probe number opening) =
    record { number = number; count = 0; at = 0; kind = 2; opening = if opening then 1 else 0 }
command_told (Wake at) = record { number = 0; count = 0; at = at; kind = 3; opening = 0 }
command_told Idle = record { number = 0; count = 0; at = 0; kind = 0; opening = 0 }
