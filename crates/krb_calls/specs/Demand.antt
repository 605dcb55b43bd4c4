-- The fields of a demand, in their order.
use Rattle.std.specs.Prelude.{◌≡◌, ◌⊎◌, ◌≤◌, Option}
use Rattle.krb_seal.specs.Sealer.{end_of_numbers}
use Rattle.krb_structs.specs.declared.demand.KrbDemand.{KrbDemand}
use Rattle.krb_structs.specs.Session.{AreZeros, IsNoAddress, address_room}
use Rattle.krb_calls.specs.declared.field.Field.{Field}
use Rattle.krb_calls.specs.declared.field.Field.TheVariants.{Sender, Receiver, Reserved, HowSender, HowReceiver}
use Rattle.krb_calls.specs.declared.field.Field.TheVariants.{HowTime, HowNumber, Number, Skew, NeedsTimeOrNumber}
use Rattle.krb_calls.specs.Field.{IsNone, Needs}

-- ---- how addresses and time are demanded

abbrev pub Hows : KrbDemand → (Option Field → Type 0) → Option Field → Type 0
Hows d Then =
    Needs (d.how_sender ≤ 2) HowSender
    (Needs (d.how_receiver ≤ 2) HowReceiver
    (Needs (d.how_time ≤ 3) HowTime Then))

abbrev pub FirstHow : KrbDemand → Option Field → Type 0
FirstHow d = Hows d IsNone

abbrev pub AreFirstHows : KrbDemand → Type 0
AreFirstHows d = (d.how_sender ≤ 2) × (d.how_receiver ≤ 2) × (d.how_time ≤ 3)

-- ---- what follows the number

-- an address has room, and is zeros where none is demanded
abbrev pub FitsSender : KrbDemand → Type 0
FitsSender d = (d.sender.len ≤ address_room) × (d.how_sender ≡ 0 → IsNoAddress d.sender)

abbrev pub FitsReceiver : KrbDemand → Type 0
FitsReceiver d = (d.receiver.len ≤ address_room) × (d.how_receiver ≡ 0 → IsNoAddress d.receiver)

-- a skew is 0 where no time is demanded
abbrev pub FitsSkew : KrbDemand → Type 0
FitsSkew d = d.how_time ≡ 0 → d.skew ≡ 0

abbrev pub LastField : KrbDemand → Option Field → Type 0
LastField d =
    Needs (FitsSkew d) Skew
    (Needs (FitsSender d) Sender
    (Needs (FitsReceiver d) Receiver
    (Needs (d.needs_time_or_number ≤ 1) NeedsTimeOrNumber
    (Needs (AreZeros d.reserved) Reserved IsNone))))

abbrev pub AreLast : KrbDemand → Type 0
AreLast d =
    FitsSkew d × FitsSender d × FitsReceiver d × (d.needs_time_or_number ≤ 1) × AreZeros d.reserved

-- ---- the whole demand

-- a number is 0 where none is demanded
abbrev pub MayHaveNumber : KrbDemand → Type 0
MayHaveNumber d = d.how_number ≡ 0 → d.number ≡ 0

abbrev pub DemandField : KrbDemand → Option Field → Type 0
DemandField d =
    Hows d
    (Needs (d.how_number ≤ 3) HowNumber
    (Needs (MayHaveNumber d) Number (LastField d)))

-- a peer demands the number, so that a message without one is refused or has the number 0
abbrev pub IsHowNumber : KrbDemand → Type 0
IsHowNumber d = (d.how_number ≡ 2) ⊎ (d.how_number ≡ 3)

abbrev pub PeerDemandField : KrbDemand → Option Field → Type 0
PeerDemandField d =
    Hows d
    (Needs (IsHowNumber d) HowNumber
    (Needs (d.number ≤ end_of_numbers) Number (LastField d)))
