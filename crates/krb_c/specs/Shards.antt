-- A shard of a receiver that C holds.
use Rattle.std.specs.Prelude.{◌≡◌, ℕ, ◌+◌, ◌<◌, ◌^◌, ◌∷◌, ◌++◌, List, [], true, false, length, Option, Some, None, IsSome, IfSome, is_some, slice_index_or}
use Rattle.krb_carrier_structs.specs.declared.receipt.KrbReceipt.{KrbReceipt}
use Rattle.krb_carrier_structs.specs.declared.receiving.KrbReceiving.{KrbReceiving}
use Rattle.krb_carrier_structs.specs.declared.receiving.KrbRow.{KrbRow}
use Rattle.krb_carrier_structs.specs.declared.receiving.KrbSeen.{KrbSeen}
use Rattle.krb_carrier_structs.specs.Numbers.{outcome_number, says, told_asks}
use Rattle.krb_carrier_structs.specs.Receipt.{told_receipt}
use Rattle.krb_carrier_structs.specs.Receiving.{TellsReceiving, told_row, told_seen}
use Rattle.krb_carrier_structs.specs.Shard.{receipt_due, then_number, told_effects, told_failure, turn_number, turn_time}
use Rattle.krb_engine.specs.declared.receiving.Outcome.{Outcome}
use Rattle.krb_engine.specs.declared.receiving.Receiving.{Receiving}
use Rattle.krb_engine.specs.declared.sending.Asks.{Asks}
use Rattle.krb_engine.specs.Receiving.{has_row}
use Rattle.krb_engine.specs.Shards.{ReadsOn}
use Rattle.krb_receiver.specs.declared.shard.Due.{Due}
use Rattle.krb_receiver.specs.declared.shard.Failure.{Failure}
use Rattle.krb_receiver.specs.declared.shard.Then.{Then}
use Rattle.krb_receiver.specs.declared.shard.Turn.{Turn}
use Rattle.krb_receiver.specs.Shard.{Fails, HasNoReceipt, OwesAgain, Pays, RestIsSame, ShardState, Takes, Turns, no_sessions, read_of}
use Rattle.krb_c.specs.declared.held_shard.HeldShard.{HeldShard}

-- the shard of a handle: where it holds nothing, one of which nothing is loaded
abbrev pub shard_of : Option HeldShard → ShardState
shard_of None = no_sessions (told_effects 0 0)
shard_of (Some held) = held.shard

-- it has a session at this place
abbrev pub HasSession : Option HeldShard → ℕ → Type 0
HasSession held place = place < length (shard_of held).sessions

-- that session
abbrev pub TellsSession : Option HeldShard → ℕ → KrbReceiving → Type 0
TellsSession held place told =
    (other : Receiving) → TellsReceiving told (slice_index_or (shard_of held).sessions place other)

-- the list that it has now is read, and all else stays
pub record ListsTold (old : ShardState) (list last number : ℕ) (new : ShardState) : Type 0 where
  pub or_not : number < 2
  pub reads : ReadsOn old.reading list last 0 (read_of (says number)) new.reading
  pub sessions : new.sessions ≡ old.sessions
  pub rest : RestIsSame old new

-- it has one session more, of which the store has this row, at this place
pub record AddsRow (old : ShardState) (row : KrbRow) (place : ℕ) (new : ShardState) : Type 0 where
  pub at_the_end : place ≡ length old.sessions
  pub added : new.sessions ≡ old.sessions ++ has_row (told_row row) old.clock ∷ []
  pub reading : new.reading ≡ old.reading
  pub rest : RestIsSame old new

-- what is to be done next
pub record TurnsTo (old : ShardState) (now number at : ℕ) (new : ShardState) : Type 0 where
  pub turn : Turn
  pub answer : number ≡ turn_number turn
  pub time : at ≡ turn_time turn
  pub turns : Turns old now turn new

-- a shard is there, and no transaction is under way
pub record CanBegin (held : Option HeldShard) : Type 0 where
  pub there : IsSome held
  pub none : is_some (shard_of held).attempt ≡ false

-- one is under way
abbrev pub HasBegun : Option HeldShard → Type 0
HasBegun held = is_some (shard_of held).attempt ≡ true

-- one is, for which a session at this place may take a frame: the next number has one after it, and nothing is in reserve
pub record MayTake (shard : ShardState) (place : ℕ) (s : KrbSeen) : Type 0 where
  pub begun : is_some shard.attempt ≡ true
  pub there : place < length shard.sessions
  pub fits : (other : Receiving) → (slice_index_or shard.sessions place other).drafted.demanded.number + 1 < 2 ^ 64
  pub reserved : s.reserved ≡ 0

abbrev pub CanTakeAt : Option HeldShard → ℕ → KrbSeen → Type 0
CanTakeAt held place s = MayTake (shard_of held) place s

-- the transaction has a frame of a session
pub record TakesTold (old : ShardState) (place : ℕ) (frame : List ℕ) (s : KrbSeen) (offset number : ℕ) (new : ShardState) : Type 0 where
  pub outcome : Outcome
  pub answer : number ≡ outcome_number outcome
  pub takes : Takes old place frame (told_seen s) offset outcome new

-- a shard is there, and there is such a failure
pub record CanFail (held : Option HeldShard) (failure : ℕ) : Type 0 where
  pub there : IsSome held
  pub known : IsSome (told_failure failure)

-- a frame isn't taken, or a transaction isn't stored
pub record FailsTold (old : ShardState) (failure offset number : ℕ) (new : ShardState) : Type 0 where
  pub reason : Failure
  pub then : Then
  pub said : told_failure failure ≡ Some reason
  pub answer : number ≡ then_number then
  pub fails : Fails old reason offset then new

-- a receipt leaves, or none is due
abbrev pub PaysOrNot : ShardState → ℕ → Option Due → ShardState → Type 0
PaysOrNot old now None new = HasNoReceipt old now new
PaysOrNot old now (Some due) new = Pays old now due new

pub record PaysTold (old : ShardState) (now place : ℕ) (r : KrbReceipt) (new : ShardState) : Type 0 where
  pub due : Option Due
  pub answer : told_receipt r ≡ receipt_due due
  pub at : IfSome due (λ it. place ≡ it.place)
  pub pays : PaysOrNot old now due new

-- it has a session at this place, and a receipt may ask for this
pub record CanOwe (held : Option HeldShard) (place asks : ℕ) : Type 0 where
  pub there : HasSession held place
  pub known : IsSome (told_asks asks)

-- the receipt is owed again
pub record OwesTold (old : ShardState) (place asks : ℕ) (new : ShardState) : Type 0 where
  pub what : Asks
  pub said : told_asks asks ≡ Some what
  pub owes : OwesAgain old place what new
