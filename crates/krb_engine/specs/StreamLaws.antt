-- What the laws of streams state.
use Rattle.std.specs.Prelude.{◌≡◌, ◌⊎◌, ◌↔◌, ℕ, ◌+◌, true, List, [], ◌∷◌, ◌++◌, length, map, All, Some, None}
use Rattle.std.specs.List.{flat_map}
use Rattle.krb_base.specs.Prefix.{IsPrefix}
use Rattle.krb_seal.specs.Sealer.{SealerState}
use Rattle.krb_peers.specs.Attempt.{Attempt, IsAttempt}
use Rattle.krb_carry.specs.Outbox.{Outbox, new_outbox, Act, IsAct, LeadsOutbox, stored_records, texts_put}
use Rattle.krb_carry.specs.Store.{Stored, new_session, Leads, IsReceipt}
use Rattle.krb_carry.specs.History.{tag}
use Rattle.krb_carry.specs.HistoryLaws.{Collision}
use Rattle.krb_carry.specs.declared.receipt.Receipt.{Receipt}
use Rattle.krb_carry.specs.Receipt.{history_of}
use Rattle.krb_engine.specs.declared.stream.Head.{Head}
use Rattle.krb_engine.specs.declared.stream.Opening.{Opening}
use Rattle.krb_engine.specs.declared.stream.Judged.TheVariants.{Begins}
use Rattle.krb_engine.specs.Stream.{judged}

-- after a session, only its next one begins, after its close, on its digest
abbrev pub BeginsAfterTheClose : Type 0
BeginsAfterTheClose =
    (head : Head) (opening : Opening) → judged (Some head) opening ≡ Begins
    → (head.closed ≡ true) × (opening.turn ≡ head.turn + 1)
    × (opening.before.number ≡ head.took.number) × (opening.before.history ≡ head.took.history)

-- Where the store has no session of the stream, its first one begins, and no other.
abbrev pub FirstOneBegins : Type 0
FirstOneBegins = (opening : Opening) → (judged None opening ≡ Begins) ↔ (opening.turn ≡ 1)

-- these frames, the session's first number being `first`
pub record IsOf (first : ℕ) (frames : List (List ℕ)) (receipt : Receipt) : Type 0 where
  pub number : receipt.number ≡ first + length frames
  pub history : receipt.history ≡ history_of frames

-- So its sender sealed what took effect in that session: its own frames have the tags of those that took
-- effect, one by one, or a collision is found.
abbrev pub OwnHistoryGoesOn : Type 0
OwnHistoryGoesOn =
    (first : ℕ) (own took : List (List ℕ)) (head : Head) (opening : Opening)
    → IsOf first took head.took → IsOf first own opening.before
    → judged (Some head) opening ≡ Begins → (map tag own ≡ map tag took) ⊎ Collision

-- A session of a stream: what its sender did to its outbox, and receivers at the store.
pub record Session : Type 0 where
  pub sealer : SealerState
  pub acts : List Act
  pub outbox : Outbox
  pub attempts : List Attempt
  pub stored : Stored

pub record IsSession (it : Session) : Type 0 where
  pub are_acts : All (IsAct it.sealer) it.acts
  pub leads : LeadsOutbox (new_outbox it.sealer) it.acts it.outbox
  pub are_attempts : All (IsAttempt it.sealer (stored_records it.outbox)) it.attempts
  pub took : Leads (new_session it.sealer) it.attempts it.stored

-- no receiver has tried it
abbrev pub IsUntried : Session → Type 0
IsUntried it = it.attempts ≡ []

-- those after a session were tried only if its close took effect
abbrev pub BeginInTurn : List Session → Type 0
BeginInTurn [] = Unit {0}
BeginInTurn (it ∷ sessions) =
    ((it.stored.demand.closed ≡ true) ⊎ All IsUntried sessions) × BeginInTurn sessions

-- what took effect of all, and what was put in
abbrev pub effects_of : List Session → List (List ℕ)
effects_of sessions = flat_map (λ (it : Session). it.stored.effects) sessions

abbrev pub texts_of : List Session → List (List ℕ)
texts_of sessions = flat_map (λ (it : Session). texts_put it.outbox.inserted) sessions

-- What took effect is a prefix of the texts, over all sessions, if none waits in one that is closed: its
-- close was put in last.
abbrev pub StreamsTakeEffectInOrder : Type 0
StreamsTakeEffectInOrder =
    (sessions : List Session) → All IsSession sessions → BeginInTurn sessions
    → IsPrefix (effects_of sessions) (texts_of sessions)

-- and all of them, once nothing waits in any session and each is done, by receipts
abbrev pub WholeStreamsTakeEffect : Type 0
WholeStreamsTakeEffect =
    (sessions : List Session) → All IsSession sessions
    → All (λ (it : Session). (it.outbox.waiting ≡ []) × IsReceipt it.stored it.outbox.next) sessions
    → effects_of sessions ≡ texts_of sessions
