-- What the laws of a session's end at a receiver state.
use Rattle.std.specs.Prelude.{◌≡◌, ◌⊎◌, ◌↔◌, ℕ, ◌+◌, ◌<◌, ◌≤◌, Bool, true, false, List, [], ◌∷◌, ◌++◌, length, All, Option, Some, None, is_some}
use Rattle.krb_carry.specs.declared.receipt.Receipt.{Receipt}
use Rattle.krb_carry.specs.Receipt.{history_of, IsTrue}
use Rattle.krb_engine.specs.declared.sending.Asks.{Asks}
use Rattle.krb_engine.specs.declared.sending.Asks.TheVariants as asks
use Rattle.krb_engine.specs.declared.receiving.Outcome.{Outcome}
use Rattle.krb_engine.specs.declared.receiving.Outcome.TheVariants.{Accepted, Repeat, Early, Unknown, Unsettled}
use Rattle.krb_engine.specs.declared.receiving.Row.{Row}
use Rattle.krb_engine.specs.declared.receiving.Seen.{Seen}
use Rattle.krb_engine.specs.declared.receiving.Receiving.{Receiving}
use Rattle.krb_engine.specs.Receiving.{outcome, took, stored, dropped}
use Rattle.krb_engine.specs.Sending.{is_over}
use Rattle.krb_engine.specs.Calls.{AnswersReceipt}

-- the row says that these frames took effect, the session's first number being `first`
pub record IsRowOf (first : ℕ) (frames : List (List ℕ)) (row : Row) : Type 0 where
  pub number : row.demanded.number ≡ first + length frames
  pub history : row.demanded.history ≡ history_of frames

-- What the store has of the session: the frames that took effect, and those that the transaction under way
-- would add.
pub record Store : Type 0 where
  pub took : List (List ℕ)
  pub more : List (List ℕ)

pub record IsEndAt (first : ℕ) (store : Store) (state : Receiving) : Type 0 where
  pub stored : IsRowOf first store.took state.stored
  pub drafted : IsRowOf first (store.took ++ store.more) state.drafted

-- The calls: a frame is taken; the transaction took effect, or didn't; a receipt is asked for.
pub data Call : Type 0 where
  Take : List ℕ → Seen → Call
  Commit : Call
  Drop : Call
  Ask : ℕ → Option (Receipt × Asks) → Call

-- the frame is in the transaction if it was accepted
abbrev pub with_frame : Store → List ℕ → Outcome → Store
with_frame store frame Accepted = record store { more = store.more ++ frame ∷ [] }
with_frame store frame Repeat = store
with_frame store frame Early = store
with_frame store frame Unknown = store
with_frame store frame Unsettled = store

-- what a call leaves, and what the store has after it
abbrev pub after_call : Store → Receiving → Call → Store
after_call store old (Take frame seen) = with_frame store frame (outcome old.drafted seen)
after_call store old Commit = record { took = store.took ++ store.more; more = [] }
after_call store old Drop = record store { more = [] }
after_call store old (Ask now answer) = store

abbrev pub AnswersCall : Receiving → Call → Receiving → Type 0
AnswersCall old (Take frame seen) new = new ≡ took old frame seen
AnswersCall old Commit new = new ≡ stored old
AnswersCall old Drop new = new ≡ dropped old
AnswersCall old (Ask now answer) new = AnswersReceipt old now answer new

-- Calls one after another: what the store has after them, and the end.
abbrev pub LeadsReceiving : Store → Receiving → List Call → Store → Receiving → Type 0
LeadsReceiving store old [] last new = (last ≡ store) × (new ≡ old)
LeadsReceiving store old (call ∷ calls) last new =
    (between : Receiving) × AnswersCall old call between
    × LeadsReceiving (after_call store old call) between calls last new

-- The end goes with the store, whatever calls come: its row names the frames that took effect.
abbrev pub GoesWithTheStore : Type 0
GoesWithTheStore =
    (first : ℕ) (store : Store) (old : Receiving) (calls : List Call) (last : Store)
    (new : Receiving) → IsEndAt first store old → LeadsReceiving store old calls last new
    → IsEndAt first last new

-- So each receipt that leaves is true, of what is stored when it leaves, and none leaves while a
-- transaction is under way.
abbrev pub ReceiptsAreTrue : Type 0
ReceiptsAreTrue =
    (first : ℕ) (store : Store) (old : Receiving) (calls : List Call) (last : Store)
    (between : Receiving) (now : ℕ) (receipt : Receipt) (it : Asks) (new : Receiving)
    → IsEndAt first store old → LeadsReceiving store old calls last between
    → AnswersReceipt between now (Some (receipt, it)) new
    → IsTrue first last.took receipt × (between.is_open ≡ false)

-- A frame is accepted at the demanded number alone, and none after the close.
abbrev pub AcceptsInTurn : Type 0
AcceptsInTurn =
    (row : Row) (seen : Seen)
    → (outcome row seen ≡ Accepted) ↔ ((seen.accepted ≡ true) × (row.closed ≡ false))

-- What opens at a lower number, or comes after the close, is a repeat; at a higher one it is early; at the
-- demanded one it is refused for a reason that may pass; and what doesn't open is nobody's.
abbrev pub RefusesByNumber : Type 0
RefusesByNumber =
    (row : Row) (seen : Seen) → seen.accepted ≡ false → row.closed ≡ false
    → (((number : ℕ) × (seen.opened ≡ Some number) × (number < row.demanded.number)) → outcome row seen ≡ Repeat)
    × (((number : ℕ) × (seen.opened ≡ Some number) × (row.demanded.number < number)) → outcome row seen ≡ Early)
    × ((seen.opened ≡ Some row.demanded.number) → outcome row seen ≡ Unsettled)
    × ((seen.opened ≡ None) → outcome row seen ≡ Unknown)

-- Whatever is the session's is owed a receipt: one that asks for nothing more if the frame was accepted, for
-- the demanded frame if it came early, and for that again later if it was refused. What doesn't open
-- changes nothing that is owed.
abbrev pub OwesReceipt : Option Asks → Outcome → Option Asks → Type 0
OwesReceipt before Accepted owed = owed ≡ Some asks.Nothing
OwesReceipt before Repeat owed = is_some owed ≡ true
OwesReceipt before Early owed = (owed ≡ Some asks.Missing) ⊎ (owed ≡ Some asks.Refused)
OwesReceipt before Unknown owed = owed ≡ before
OwesReceipt before Unsettled owed = owed ≡ Some asks.Refused

abbrev pub ReceiptsAreOwed : Type 0
ReceiptsAreOwed =
    (old : Receiving) (frame : List ℕ) (seen : Seen)
    → OwesReceipt old.owed (outcome old.drafted seen) (took old frame seen).owed

-- What is owed leaves after the pause, once the transaction took effect: of what it stored.
abbrev pub ReceiptsLeave : Type 0
ReceiptsLeave =
    (old : Receiving) (now : ℕ) (it : Asks) (answer : Option (Receipt × Asks)) (new : Receiving)
    → old.owed ≡ Some it → is_over old.paid now ≡ true
    → AnswersReceipt (stored old) now answer new → answer ≡ Some (old.drafted.demanded, it)

-- A close that was accepted is stored with its transaction, and no frame is accepted after it.
abbrev pub ClosesAreStored : Type 0
ClosesAreStored =
    (old : Receiving) (frame : List ℕ) (seen later : Seen)
    → outcome old.drafted seen ≡ Accepted → seen.is_close ≡ true
    → ((stored (took old frame seen)).stored.closed ≡ true)
    × (outcome (stored (took old frame seen)).stored later ≡ Repeat)
