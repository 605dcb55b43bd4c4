-- What the calls say to C whose answer is a choice.
use Rattle.std.specs.Prelude.{◌≡◌, ℕ, List, Option, Some}
use Rattle.krb_carry.specs.declared.receipt.Receipt.{Receipt}
use Rattle.krb_engine.specs.declared.sending.Asks.{Asks}
use Rattle.krb_engine.specs.declared.sending.Command.{Command}
use Rattle.krb_engine.specs.declared.sending.Heard.{Heard}
use Rattle.krb_engine.specs.declared.receiving.Receiving.{Receiving}
use Rattle.krb_engine.specs.declared.shards.Read.{Read}
use Rattle.krb_engine.specs.declared.shards.Reading.{Reading}
use Rattle.krb_engine.specs.Calls.{AnswersReceipt, Hears, Serves}
use Rattle.krb_engine.specs.Sending.{looked}
use Rattle.krb_engine.specs.SendingState.{SendingState}
use Rattle.krb_engine.specs.Shards.{ReadsOn}
use Rattle.krb_carrier_structs.specs.declared.command.KrbCommand.{KrbCommand}
use Rattle.krb_carrier_structs.specs.declared.receipt.KrbReceipt.{KrbReceipt}
use Rattle.krb_carrier_structs.specs.declared.receiving.KrbReceiving.{KrbReceiving}
use Rattle.krb_carrier_structs.specs.declared.sending.KrbSending.{KrbSending}
use Rattle.krb_carrier_structs.specs.declared.shards.KrbReading.{KrbReading}
use Rattle.krb_carrier_structs.specs.Command.{command_told}
use Rattle.krb_carrier_structs.specs.Numbers.{heard_number, read_number}
use Rattle.krb_carrier_structs.specs.Receipt.{told_receipt}
use Rattle.krb_carrier_structs.specs.Receiving.{TellsReceiving, told_receiving}
use Rattle.krb_carrier_structs.specs.Sending.{Tells, told_sending}
use Rattle.krb_carrier_structs.specs.Shards.{reading_told, told_reading}

-- a sender's end hears a receipt
pub record HearsTold (old : KrbSending) (own : List ℕ) (r : KrbReceipt) (now number : ℕ) (new : KrbSending) : Type 0 where
  pub receipt : Receipt
  pub asks : Asks
  pub heard : Heard
  pub state : SendingState
  pub said : told_receipt r ≡ Some (receipt, asks)
  pub answer : number ≡ heard_number heard
  pub after : Tells new state
  pub hears : Hears (told_sending old) own receipt asks now heard state

-- a sender's end is served
pub record ServesTold (old : KrbSending) (room now : ℕ) (c : KrbCommand) (new : KrbSending) : Type 0 where
  pub command : Command
  pub state : SendingState
  pub answer : c ≡ command_told command
  pub after : Tells new state
  pub serves : Serves (looked (told_sending old) now) room now command state

-- a receiver's end is asked for its receipt
pub record AnswersTold (old : KrbReceiving) (now : ℕ) (r : KrbReceipt) (new : KrbReceiving) : Type 0 where
  pub receipt : Option (Receipt × Asks)
  pub state : Receiving
  pub answer : told_receipt r ≡ receipt
  pub after : TellsReceiving new state
  pub answers : AnswersReceipt (told_receiving old) now receipt state

-- a receiver's shard is read
pub record ReadsTold (old : KrbReading) (list last count number : ℕ) (new : KrbReading) : Type 0 where
  pub read : Read
  pub state : Reading
  pub answer : number ≡ read_number read
  pub after : new ≡ reading_told state
  pub reads : ReadsOn (told_reading old) list last count read state
