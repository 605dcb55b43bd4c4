-- The tables of an outbox, and the transactions on them, as the carrier's programs write them.
use Rattle.std.specs.Prelude.{◌≡◌, ◌⊎◌, ℕ, ◌+◌, ◌==◌, nat_le, nat_lt, ◌&&◌, ◌||◌, Bool, true, false, List, [], ◌∷◌, ◌++◌, length, map, slice_get, is_none, Option, Some, None, option_map, if◌then◌else◌}
use Rattle.krb_peers.specs.Session.{Sealed}
use Rattle.krb_seal.specs.Sealer.{SealerState}
use Rattle.krb_carry.specs.Outbox.{Put, has_close_put, puts_in, Outbox, MayLeave, Sealing, IsSealing}
use Rattle.krb_laws.specs.Database.{Table, Change, changed, insert, upsert, Statement, CommitAnswer, Ends}

-- ---- tables

-- a row of `text`: a body that is NULL is the close
pub record TextRow : Type 0 where
  pub id : ℕ
  pub session : ℕ
  pub body : Put

-- `text` by id, whether `closed` has a row of a session, what is `next` in the row of a session, and
-- the rows of `frame` by session and number
pub record OutboxTables : Type 0 where
  pub texts : List TextRow
  pub closed : ℕ → Bool
  pub next : Table ℕ
  pub frames : ℕ → Table (List ℕ)

abbrev pub empty_tables : OutboxTables
empty_tables =
    record {
      texts = [];
      closed = λ (session : ℕ). false;
      next = λ (session : ℕ). None;
      frames = λ (session number : ℕ). None;
    }

-- ---- what an application does

-- INSERT INTO text, under its triggers
abbrev pub insert_text : TextRow → Statement OutboxTables
insert_text row tables =
    if tables.closed row.session then None
    else Some (record tables {
      texts = tables.texts ++ row ∷ [];
      closed = λ (session : ℕ). tables.closed session || ((session == row.session) && is_none row.body);
    })

-- ---- what a sender does

-- INSERT INTO frame, which fails where the number has a row
pub record FrameRow : Type 0 where
  pub session : ℕ
  pub number : ℕ
  pub frame : List ℕ

abbrev pub with_frame : (ℕ → Table (List ℕ)) → FrameRow → List ℕ → ℕ → Table (List ℕ)
with_frame frames row frame =
    λ (session number : ℕ). if (session == row.session) && (number == row.number) then Some frame
    else frames session number

abbrev pub add_frame : FrameRow → Statement OutboxTables
add_frame row tables =
    option_map
    (λ frame. let new : OutboxTables = record tables { frames = with_frame tables.frames row frame } in new)
    (insert row.frame (tables.frames row.session row.number))

-- DELETE FROM text WHERE id >= .. AND id <= ..
pub record Run : Type 0 where
  pub first : ℕ
  pub last : ℕ

abbrev pub without : Run → List TextRow → List TextRow
without run [] = []
without run (row ∷ rows) =
    if nat_le run.first row.id && nat_le row.id run.last then without run rows
    else row ∷ without run rows

abbrev pub without_all : List Run → List TextRow → List TextRow
without_all [] rows = rows
without_all (run ∷ runs) rows = without_all runs (without run rows)

abbrev pub drop_texts : Run → Statement OutboxTables
drop_texts run tables = Some (record tables { texts = without run tables.texts })

-- INSERT INTO session .. SELECT .. WHERE it goes on from the first number OR there is a row, ON CONFLICT
-- DO UPDATE SET next = .. WHERE next = ..
pub record Next : Type 0 where
  pub session : ℕ
  pub first : ℕ
  pub from : ℕ
  pub to : ℕ

abbrev pub set_next : Next → Change ℕ
set_next it =
    record { key = it.session; writes = upsert (it.from == it.first) (λ (next : ℕ). next == it.from) it.to }

abbrev pub on_next : Change ℕ → Statement OutboxTables
on_next change tables =
    option_map (λ next. let new : OutboxTables = record tables { next = next } in new)
    (changed change tables.next)

-- DELETE FROM frame WHERE session = .. AND number < ..
pub record Carried : Type 0 where
  pub session : ℕ
  pub done : ℕ

abbrev pub drop_frames : Carried → Statement OutboxTables
drop_frames it tables =
    Some (record tables {
      frames = λ (session number : ℕ). if (session == it.session) && nat_lt number it.done then None
          else tables.frames session number;
    })

-- what a sender asks for in one transaction, of any sessions
pub record Sent : Type 0 where
  pub frames : List FrameRow
  pub drops : List Run
  pub nexts : List Next
  pub carried : List Carried

abbrev pub sending : Sent → List (Statement OutboxTables)
sending it =
    map add_frame it.frames
    ++ (map drop_texts it.drops
    ++ (map (λ (next : Next). on_next (set_next next)) it.nexts ++ map drop_frames it.carried))

-- ---- what the tables have of a session

abbrev pub waiting_of : ℕ → List TextRow → List Put
waiting_of session [] = []
waiting_of session (row ∷ rows) =
    if row.session == session then row.body ∷ waiting_of session rows else waiting_of session rows

abbrev pub next_in : ℕ → Option ℕ → ℕ
next_in first None = first
next_in first (Some next) = next

-- The tables hold this of an outbox. All that was put in, and frames that are carried, aren't kept.
pub record Holds (first session : ℕ) (tables : OutboxTables) (outbox : Outbox) : Type 0 where
  pub waiting : waiting_of session tables.texts ≡ outbox.waiting
  pub closed : tables.closed session ≡ has_close_put outbox.inserted
  pub next : next_in first (tables.next session) ≡ outbox.next
  pub frames : (number : ℕ) (frame : List ℕ) → tables.frames session number ≡ Some frame
      → MayLeave outbox number frame

-- ---- what a transaction has of a session

abbrev pub nexts_of : ℕ → List Next → List Next
nexts_of session [] = []
nexts_of session (it ∷ nexts) =
    if it.session == session then it ∷ nexts_of session nexts else nexts_of session nexts

-- it inserts this frame
abbrev pub Adds : List FrameRow → ℕ → ℕ → List ℕ → Type 0
Adds [] session number frame = ⊥
Adds (row ∷ rows) session number frame =
    ((session ≡ row.session) × (number ≡ row.number) × (row.frame ≡ frame))
    ⊎ Adds rows session number frame

-- What was sealed of the session: of the oldest texts that wait, as the transaction read them.
pub record Seals (first session : ℕ) (tables : OutboxTables) (it : Sent)
    (sealing : Sealing) : Type 0 where
  pub next : Next
  pub once : nexts_of session it.nexts ≡ next ∷ []
  pub first_is : next.first ≡ first
  pub from : next.from ≡ sealing.from
  pub to : next.to ≡ sealing.from + length sealing.sealed
  pub takes : waiting_of session tables.texts
      ≡ puts_in sealing.sealed ++ waiting_of session (without_all it.drops tables.texts)
  pub frames : (number : ℕ) (frame : List ℕ) → Adds it.frames session number frame
      → (i : ℕ) × (sealed : Sealed) × (slice_get sealing.sealed i ≡ Some sealed)
      × (number ≡ sealing.from + i) × (frame ≡ sealed.frame)

-- or nothing
pub record SealsNone (session : ℕ) (tables : OutboxTables) (it : Sent) : Type 0 where
  pub no_next : nexts_of session it.nexts ≡ []
  pub no_text : waiting_of session (without_all it.drops tables.texts)
      ≡ waiting_of session tables.texts
  pub no_frame : (number : ℕ) (frame : List ℕ) → ¬ Adds it.frames session number frame

-- ---- histories, of an application and any senders

pub data Deed : Type 0 where
  Puts : TextRow → Deed
  Sends : Sent → Deed

abbrev pub statements_of : Deed → List (Statement OutboxTables)
statements_of (Puts row) = insert_text row ∷ []
statements_of (Sends it) = sending it

-- what a deed is of a session
abbrev pub IsDeed : SealerState → ℕ → OutboxTables → Deed → Type 0
IsDeed sealer session tables (Puts row) = Unit {0}
IsDeed sealer session tables (Sends it) =
    ((sealing : Sealing) × IsSealing sealer sealing × Seals sealer.next session tables it sealing)
    ⊎ SealsNone session tables it

-- whole transactions, in the order in which the database serialized them
abbrev pub LeadsDeeds : SealerState → ℕ → OutboxTables → List Deed → OutboxTables → Type 0
LeadsDeeds sealer session old [] new = new ≡ old
LeadsDeeds sealer session old (deed ∷ deeds) new =
    (answer : CommitAnswer) × (between : OutboxTables) × IsDeed sealer session old deed
    × Ends (statements_of deed) answer old between × LeadsDeeds sealer session between deeds new
