-- What the laws state.
use Rattle.std.specs.Prelude.{◌≡◌, ◌≢◌, ◌⊎◌, ℕ, zero, suc, ◌+◌, ◌<◌, ◌≤◌, true, List, [], ◌∷◌, ◌++◌, length, take, slice_get, Some}
use Rattle.krb_engine.specs.Queue.{has, with_session, is_distinct}
use Rattle.krb_engine.specs.declared.pause.Pause.{Pause}
use Rattle.krb_engine.specs.Pause.{IsOver, longer, pause_after}

-- ---- turns

-- a session is ready, or the next one is served
pub data Turn : Type 0 where
  Ready : ℕ → Turn
  Serve : Turn

abbrev pub without_first : List ℕ → List ℕ
without_first [] = []
without_first (session ∷ queue) = queue

abbrev pub first_of : List ℕ → List ℕ
first_of [] = []
first_of (session ∷ queue) = session ∷ []

abbrev pub after_turn : List ℕ → Turn → List ℕ
after_turn queue (Ready session) = with_session queue session
after_turn queue Serve = without_first queue

abbrev pub after_turns : List ℕ → List Turn → List ℕ
after_turns queue [] = queue
after_turns queue (turn ∷ turns) = after_turns (after_turn queue turn) turns

-- the sessions that are served, one after another
abbrev pub served : List ℕ → List Turn → List ℕ
served queue [] = []
served queue (Ready session ∷ turns) = served (with_session queue session) turns
served queue (Serve ∷ turns) = first_of queue ++ served (without_first queue) turns

-- how often one is served
abbrev pub services : List Turn → ℕ
services [] = 0
services (Ready session ∷ turns) = services turns
services (Serve ∷ turns) = suc (services turns)

-- ---- what is claimed of them

-- A session that waits behind so many others is served after exactly so many, whatever becomes ready.
abbrev pub ServedInTurn : Type 0
ServedInTurn = (queue : List ℕ) (turns : List Turn) (place session : ℕ)
    → slice_get queue place ≡ Some session → place < services turns
    → slice_get (served queue turns) place ≡ Some session

-- Each session waits once.
abbrev pub EachWaitsOnce : Type 0
EachWaitsOnce = (queue : List ℕ) (turns : List Turn) → is_distinct queue ≡ true
    → is_distinct (after_turns queue turns) ≡ true

-- Of those that wait none is served twice before all of them were served.
abbrev pub NoneOvertakes : Type 0
NoneOvertakes = (queue : List ℕ) (turns : List Turn) → is_distinct queue ≡ true
    → is_distinct (take (length queue) (served queue turns)) ≡ true

-- A session that waits was served, or still waits.
abbrev pub NoneIsLost : Type 0
NoneIsLost = (queue : List ℕ) (turns : List Turn) (session : ℕ) → has queue session ≡ true
    → (has (served queue turns) session ≡ true) ⊎ (has (after_turns queue turns) session ≡ true)

-- ---- pauses

-- it is tried again at these times, each time when the pause is over
abbrev pub Tries : ℕ → Pause → List ℕ → Pause → Type 0
Tries cap old [] new = new ≡ old
Tries cap old (now ∷ times) new = IsOver old now × Tries cap (longer cap old now) times new

-- The pause after so many tries is the first one doubled as often, up to the cap.
abbrev pub PausesDouble : Type 0
PausesDouble = (cap : ℕ) (old : Pause) (times : List ℕ) (new : Pause) → old.length ≤ cap
    → Tries cap old times new → new.length ≡ pause_after cap old.length (length times)

-- the sum of the first so many pauses
abbrev pub pauses : ℕ → ℕ → ℕ → ℕ
pauses cap first zero = 0
pauses cap first (suc tries) = pauses cap first tries + pause_after cap first tries

-- So many tries take at least the sum of as many pauses.
abbrev pub TriesAreRare : Type 0
TriesAreRare = (cap : ℕ) (old : Pause) (times : List ℕ) (new : Pause) → old.length ≤ cap
    → Tries cap old times new → old.since + pauses cap old.length (length times) ≤ new.since
