-- The fields of a session and of an expectation, in their order.
use Rattle.std.specs.Prelude.{◌≡◌, ◌≤◌, Option}
use Rattle.krb_structs.specs.declared.session.KrbExpect.{KrbExpect}
use Rattle.krb_structs.specs.declared.session.KrbSession.{KrbSession}
use Rattle.krb_structs.specs.Session.{AreZeros, HaveRoom, IsExpect, IsMode, IsNoAddress, IsSession, address_room}
use Rattle.krb_calls.specs.declared.field.Field.{Field}
use Rattle.krb_calls.specs.declared.field.Field.TheVariants.{Mode, Sender, Receiver, Reserved}
use Rattle.krb_calls.specs.Field.{IsNone, Needs}

-- the receiver's address has room, and is zeros where the messages don't tell it
abbrev pub TellsReceiver : KrbSession → Type 0
TellsReceiver s = (s.receiver.len ≤ address_room) × (s.has_receiver ≡ 0 → IsNoAddress s.receiver)

abbrev pub SessionField : KrbSession → Option Field → Type 0
SessionField s =
    Needs (IsMode s.mode) Mode
    (Needs (s.sender.len ≤ address_room) Sender
    (Needs (TellsReceiver s) Receiver
    (Needs (AreZeros s.reserved) Reserved IsNone)))

-- a session that the calls take
abbrev pub IsWholeSession : KrbSession → Type 0
IsWholeSession s = IsSession s × IsMode s.mode × HaveRoom s.sender.len s.receiver.len

abbrev pub ExpectField : KrbExpect → Option Field → Type 0
ExpectField x =
    Needs (IsMode x.mode) Mode
    (Needs (x.sender.len ≤ address_room) Sender
    (Needs (x.receiver.len ≤ address_room) Receiver
    (Needs (AreZeros x.reserved) Reserved IsNone)))

-- an expectation that the calls take
abbrev pub IsWholeExpect : KrbExpect → Type 0
IsWholeExpect x = IsExpect x × IsMode x.mode × HaveRoom x.sender.len x.receiver.len
