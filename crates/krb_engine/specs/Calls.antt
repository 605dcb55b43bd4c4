-- What the calls of a session's ends answer.
use Rattle.std.specs.Prelude.{◌≡◌, ◌⊎◌, ℕ, ◌+◌, ◌<◌, true, false, List, Option, Some, None, is_some}
use Rattle.krb_carry.specs.declared.receipt.Finding.{Finding}
use Rattle.krb_carry.specs.declared.receipt.Receipt.{Receipt}
use Rattle.krb_carry.specs.Receipt.{Finds}
use Rattle.krb_engine.specs.declared.sending.Asks.{Asks}
use Rattle.krb_engine.specs.declared.sending.Command.{Command}
use Rattle.krb_engine.specs.declared.sending.Command.TheVariants.{Publish, Probe, Wake, Idle}
use Rattle.krb_engine.specs.declared.sending.Heard.{Heard}
use Rattle.krb_engine.specs.declared.sending.Heard.TheVariants.{Nothing}
use Rattle.krb_engine.specs.declared.receiving.Receiving.{Receiving}
use Rattle.krb_engine.specs.Receiving.{answered}
use Rattle.krb_engine.specs.SendingState.{SendingState}
use Rattle.krb_engine.specs.Sending.{is_over, found, heard_of, heeded, is_settled, batch, is_free, published, is_unanswered, has_opening, probed, wake_time}

-- A receipt comes, and `own` is the digest of the sender's own frames below its number. A session that is
-- stopped hears nothing. Of any other, what follows is what follows of krb_carry' finding; and the
-- receiver is heeded, if it asks for the first frame that isn't done then.
abbrev pub Hears : SendingState → List ℕ → Receipt → Asks → ℕ → Heard → SendingState → Type 0
Hears old own receipt it now heard new =
    ((is_some old.ended ≡ true) × (heard ≡ Nothing) × (new ≡ old))
    ⊎ ((is_some old.ended ≡ false)
    × ((finding : Finding) × Finds old.done old.progress.next own receipt finding
    × (heard ≡ heard_of finding)
    × (new ≡ heeded (found old receipt.number now finding) receipt.number it now)))

-- nothing may leave
abbrev pub Rests : SendingState → ℕ → ℕ → Type 0
Rests state room now = (batch state room ≡ 0) ⊎ (is_free state now ≡ false)

-- the last carried frame
abbrev pub IsProbe : SendingState → Command → Type 0
IsProbe state (Publish from count) = ⊥
IsProbe state (Probe number opening) =
    (number + 1 ≡ state.progress.carried) × (opening ≡ has_opening state)
IsProbe state (Wake at) = ⊥
IsProbe state Idle = ⊥

-- What is to be done, after it was seen what wasn't confirmed in time. Nothing, if all is done or it is
-- stopped. Else what may leave leaves. Else, if a receipt is overdue, the last carried frame alone. Else
-- nothing before the next pause is over, or it asks again for room.
abbrev pub Serves : SendingState → ℕ → ℕ → Command → SendingState → Type 0
Serves old room now Idle new = (is_settled old ≡ true) × (new ≡ old)
Serves old room now (Publish from count) new =
    (is_settled old ≡ false) × (0 < count) × (is_free old now ≡ true)
    × (count ≡ batch old room) × (from ≡ old.progress.sent) × (new ≡ published old count now)
Serves old room now (Probe number opening) new =
    (is_settled old ≡ false) × Rests old room now × (is_unanswered old now ≡ true)
    × IsProbe old (Probe number opening) × (new ≡ probed old now)
Serves old room now (Wake at) new =
    (is_settled old ≡ false) × Rests old room now × (is_unanswered old now ≡ false)
    × (at ≡ wake_time old (batch old room) room now) × (new ≡ old)

-- ---- a receiver

-- A receipt leaves if one is owed, no transaction is under way, and none left before, within the pause: of
-- what is stored, with what is asked for.
abbrev pub AnswersReceipt : Receiving → ℕ → Option (Receipt × Asks) → Receiving → Type 0
AnswersReceipt old now None new =
    ((old.is_open ≡ true) ⊎ (is_over old.paid now ≡ false) ⊎ (old.owed ≡ None)) × (new ≡ old)
AnswersReceipt old now (Some answer) new =
    (old.is_open ≡ false) × (is_over old.paid now ≡ true) × (old.owed ≡ Some answer.1)
    × (answer.0 ≡ old.stored.demanded) × (new ≡ answered old now)
