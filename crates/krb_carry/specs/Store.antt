-- What a store has of a session, and what receivers do to it.
use Rattle.std.specs.Prelude.{◌≡◌, ◌⊎◌, ◌≤◌, ℕ, List, [], ◌∷◌, ◌++◌, take}
use Rattle.krb_record.specs.declared.record.Record.{Record}
use Rattle.krb_seal.specs.Sealer.{SealerState}
use Rattle.krb_peers.specs.Attempt.{Attempt, ends_at, DemandsAfter}
use Rattle.krb_peers.specs.Texts.{texts_of_all}
use Rattle.krb_peers.specs.Demand.{Demand}
use Rattle.krb_peers.specs.Order.{first_demand}
use Rattle.krb_peers.specs.Verdicts.{delivered}

-- what is demanded next, and the texts that took effect, in order
pub record Stored : Type 0 where
  pub demand : Demand
  pub effects : List (List ℕ)

-- of a session that is new: its first number is demanded, and nothing took effect
abbrev pub new_session : SealerState → Stored
new_session sealer = record { demand = first_demand sealer.next; effects = [] }

-- ---- transactions

-- what is stored after an attempt took effect: its texts, and what it demands
abbrev pub applied : Stored → Attempt → Stored
applied stored attempt =
    record { demand = ends_at attempt; effects = stored.effects ++ delivered attempt.verdicts }

-- Compare-and-set. The transaction of an attempt takes effect, which it may only if the stored
-- demand is that with which the attempt began, or it changes nothing.
abbrev pub Commits : Stored → Attempt → Stored → Type 0
Commits old attempt new = ((old.demand ≡ attempt.receiver.demand) × (new ≡ applied old attempt))
    ⊎ (new ≡ old)

-- a history: the transactions of these attempts, in the order in which the store serialized them,
-- lead from what was stored before to what is stored after
abbrev pub Leads : Stored → List Attempt → Stored → Type 0
Leads old [] new = new ≡ old
Leads old (attempt ∷ attempts) new =
    (between : Stored) × Commits old attempt between × Leads between attempts new

-- ---- what is claimed of it

-- The texts of the session's first `count` records took effect, in order and each once. What is
-- demanded is what comes after exactly these.
pub record IsAfter (sealer : SealerState) (records : List Record) (count : ℕ)
    (stored : Stored) : Type 0 where
  pub effects : stored.effects ≡ texts_of_all (take count records)
  pub demands : DemandsAfter sealer records count stored.demand

-- for some count
abbrev pub HasFirst : SealerState → List Record → Stored → Type 0
HasFirst sealer records stored = (count : ℕ) × IsAfter sealer records count stored

-- a receipt for this number: all records below it took effect
abbrev pub IsReceipt : Stored → ℕ → Type 0
IsReceipt stored number = number ≤ stored.demand.expected
