-- What a receiver returns.
use Rattle.std.specs.Prelude.{◌≡◌, ◌⊎◌, ℕ, Bool, false, List, Ok, Err}
use Rattle.krb_seal.specs.declared.refusal.Refusal.TheVariants.{Memory}
use Rattle.krb_base.specs.Bytes.{AreZero}
use Rattle.krb_seal.specs.Memory.{AsksForMemory}
use Rattle.krb_record.specs.Record.{SpellsRecord, kind_of}
use Rattle.krb_peers.specs.declared.delivery.Delivery.{Delivery}
use Rattle.krb_peers.specs.declared.receiver.Opened.{Opened}
use Rattle.krb_peers.specs.declared.receiver.Receiving.{Receiving}
use Rattle.krb_peers.specs.Order.{demand_after, next_demand}
use Rattle.krb_peers.specs.ReceiverState.{ReceiverState}
use Rattle.krb_peers.specs.Verdicts.{Verdict, IsVerdict, accepted_by, record_of, verdict}

-- the verdict on a frame that is taken at a timestamp, or out of memory
abbrev pub IsJudgement : ReceiverState → ℕ → List ℕ → Verdict → Type 0
IsJudgement receiver now frame answer =
    (answer ≡ Err Memory) ⊎ IsVerdict receiver.opener receiver.demand now frame answer

-- the verdict on a frame is a delivery, and its record has this kind and these bytes
abbrev pub OpensRecord : ReceiverState → ℕ → List ℕ → Opened → Type 0
OpensRecord receiver now frame opened =
    (delivery : Delivery) × IsVerdict receiver.opener receiver.demand now frame (Ok delivery)
    × SpellsRecord (record_of delivery) opened.bytes
    × (opened.kind ≡ kind_of (record_of delivery))

-- nothing is allocated for a frame after a close, nor where the opener asks for no memory
abbrev pub TakesMemory : ReceiverState → ℕ → List ℕ → Type 0
TakesMemory receiver now frame =
    (receiver.demand.closed ≡ false)
    × AsksForMemory receiver.opener receiver.demand.expected now frame

-- the verdict itself
unfoldable pub verdict_by : ReceiverState → ℕ → List ℕ → Verdict
verdict_by receiver now frame = verdict receiver.opener receiver.demand now frame

-- after a verdict the next number is demanded, or the same one
abbrev pub receiver_after : ReceiverState → Verdict → ReceiverState
receiver_after receiver answer =
    record receiver { demand = demand_after receiver.demand (accepted_by answer) }

-- and after an accepted record, which was the close or wasn't
abbrev pub advanced : ReceiverState → Bool → ReceiverState
advanced receiver close = record receiver { demand = next_demand receiver.demand close }

-- the key of a lane's receiver is overwritten: it is zeros
abbrev pub IsWiped : Receiving → Type 0
IsWiped receiving = AreZero receiving.receiver.opener.key
