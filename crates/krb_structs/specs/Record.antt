-- Records as C sees them: the number of one's kind, and its bytes after the first.
use Rattle.std.specs.Prelude.{◌≡◌, ℕ, List, ◌∷◌, Ok}
use Rattle.krb_seal.specs.Sealer.{SealerState, SealsNext}
use Rattle.krb_record.specs.declared.record.Record.{Record}
use Rattle.krb_record.specs.Record.{SpellsRecord, kind_of, number_of, first_byte_of}
use Rattle.krb_peers.specs.declared.delivery.Delivery.{Delivery}
use Rattle.krb_peers.specs.ReceiverState.{ReceiverState}
use Rattle.krb_peers.specs.Receiver.{receiver_after}
use Rattle.krb_peers.specs.Verdicts.{IsVerdict, record_of}

-- the user data are those of a record whose kind has this number, and the body is what follows
-- their first byte
pub record IsRecordOf (kind : ℕ) (body : List ℕ) (r : Record) (user : List ℕ) : Type 0 where
  pub spelt : SpellsRecord r user
  pub kind_is : kind ≡ number_of (kind_of r)
  pub body_is : user ≡ first_byte_of (kind_of r) ∷ body

-- the bytes seal such a record at the sealer's next number
abbrev pub SealsRecord : SealerState → ℕ → List ℕ → ℕ → List ℕ → List ℕ → Type 0
SealsRecord s kind body at conf frame =
    (r : Record) × ((user : List ℕ) × IsRecordOf kind body r user × SealsNext s user at conf frame)

-- A receiver accepts a frame: the verdict on it is a delivery, whose record this is, and the receiver
-- is as after that.
abbrev pub Accepts : ReceiverState → ℕ → List ℕ → ℕ → List ℕ → ReceiverState → Type 0
Accepts old now frame kind body new =
    (delivery : Delivery) × IsVerdict old.opener old.demand now frame (Ok delivery)
    × ((user : List ℕ) × IsRecordOf kind body (record_of delivery) user)
    × (new ≡ receiver_after old (Ok delivery))
