-- A shard of a receiver with all its sessions, of C's.
use Rattle.std.specs.Prelude.{ℕ, ◌==◌, Option, Some, None, if◌then◌else◌}
use Rattle.krb_carry.specs.declared.receipt.Receipt.{Receipt}
use Rattle.krb_engine.specs.declared.sending.Asks.{Asks}
use Rattle.krb_receiver.specs.declared.shard.Due.{Due}
use Rattle.krb_receiver.specs.declared.shard.Effects.{Effects}
use Rattle.krb_receiver.specs.declared.shard.Failure.{Failure}
use Rattle.krb_receiver.specs.declared.shard.Failure.TheVariants as failures
use Rattle.krb_receiver.specs.declared.shard.Found.{Found}
use Rattle.krb_receiver.specs.declared.shard.Found.TheVariants as founds
use Rattle.krb_receiver.specs.declared.shard.Then.{Then}
use Rattle.krb_receiver.specs.declared.shard.Then.TheVariants as thens
use Rattle.krb_receiver.specs.declared.shard.Turn.{Turn}
use Rattle.krb_receiver.specs.declared.shard.Turn.TheVariants as turns
use Rattle.krb_carrier_structs.specs.Numbers.{says}

-- what effects are
abbrev pub told_effects : ℕ → ℕ → Effects
told_effects are_outside put_aside = record { are_outside = says are_outside; put_aside = says put_aside }

-- why something isn't taken or stored
abbrev pub told_failure : ℕ → Option Failure
told_failure n =
    if n == 1 then Some failures.Refused
    else (if n == 2 then Some failures.Later
    else (if n == 3 then Some failures.Fenced else (if n == 4 then Some failures.Fault else None)))

-- what happens to a transaction
abbrev pub then_number : Then → ℕ
then_number thens.Store = 0
then_number thens.Again = 1
then_number thens.Wait = 2

-- what the store has, beside what is known
abbrev pub found_number : Found → ℕ
found_number founds.Same = 0
found_number founds.Ahead = 1
found_number founds.Behind = 2

-- what is to be done next, and when
abbrev pub turn_number : Turn → ℕ
turn_number turns.Load = 0
turn_number (turns.Wait at) = 1
turn_number turns.Read = 2

abbrev pub turn_time : Turn → ℕ
turn_time turns.Load = 0
turn_time (turns.Wait at) = at
turn_time turns.Read = 0

-- a receipt that leaves, if one does
abbrev pub receipt_due : Option Due → Option (Receipt × Asks)
receipt_due None = None
receipt_due (Some due) = Some (due.receipt, due.asks)
