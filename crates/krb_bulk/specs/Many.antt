-- What sealing several messages in one call gives: what one call after another gives.
use Rattle.std.specs.Prelude.{◌≡◌, ℕ, ◌<◌, ◌≤◌, zero, suc, List, [], ◌∷◌, length, true, false, Result, Ok, Err}
use Rattle.std.specs.Global.{Vec}
use Rattle.krb_base.specs.Limits.{last_number, user_data_limit}
use Rattle.krb_seal.specs.declared.seal_error.SealError.{SealError}
use Rattle.krb_seal.specs.declared.seal_error.SealError.TheVariants as errors
use Rattle.krb_seal.specs.Sealer.{SealerState, SealsNext, advanced, end_of_numbers}
use Rattle.krb_bulk.specs.declared.unsealed.Unsealed.{Unsealed}
use Rattle.krb_bulk.specs.declared.many_error.ManyError.{ManyError}
use Rattle.krb_bulk.specs.declared.many_error.ManyError.TheVariants.{Refused, Memory}

-- The bytes are the frame of a message at the sealer's next number.
abbrev pub SealsMessage : SealerState → Unsealed → List ℕ → Type 0
SealsMessage s m bytes = SealsNext s m.user_data.now m.at m.confounder bytes

-- The frames are those of the messages, one after another, each at the number after that of the one
-- before.
abbrev pub SealsInTurn : SealerState → List Unsealed → List (Vec ℕ) → Type 0
SealsInTurn s [] [] = Unit {0}
SealsInTurn s [] (f ∷ fs) = ⊥
SealsInTurn s (m ∷ ms) [] = ⊥
SealsInTurn s (m ∷ ms) (f ∷ fs) = SealsMessage s m f.items × SealsInTurn (advanced s) ms fs

-- The sealer can seal a message next: it is live, the message is short, and a number is left.
pub record CanSeal (s : SealerState) (m : Unsealed) : Type 0 where
  pub live : s.wiped ≡ false
  pub short : length m.user_data.now ≤ user_data_limit
  pub left : s.next ≤ last_number

-- It can seal them one after another.
abbrev pub CanSealInTurn : SealerState → List Unsealed → Type 0
CanSealInTurn s [] = Unit {0}
CanSealInTurn s (m ∷ ms) = CanSeal s m × CanSealInTurn (advanced s) ms

-- Why it can't seal a message next. Out of memory is no reason of a message.
abbrev pub Refuses : SealerState → Unsealed → SealError → Type 0
Refuses s m errors.Wiped = s.wiped ≡ true
Refuses s m errors.TooLong = (s.wiped ≡ false) × (user_data_limit < length m.user_data.now)
Refuses s m errors.Exhausted =
    (s.wiped ≡ false) × (length m.user_data.now ≤ user_data_limit) × (s.next ≡ end_of_numbers)
Refuses s m errors.Memory = ⊥

-- The message with this index is the first that it can't seal in turn, and this is why.
abbrev pub RefusesFirst : SealerState → List Unsealed → ℕ → SealError → Type 0
RefusesFirst s [] i why = ⊥
RefusesFirst s (m ∷ ms) zero why = Refuses s m why
RefusesFirst s (m ∷ ms) (suc i) why = CanSeal s m × RefusesFirst (advanced s) ms i why

-- What sealing them answers. They were sealed, or there was no memory: all can be sealed in turn. Or
-- one was refused: it is the first that can't be.
abbrev pub AnswersMany : {A : Type 0} → SealerState → List Unsealed → Result A ManyError → Type 0
AnswersMany s ms (Ok frames) = CanSealInTurn s ms
AnswersMany s ms (Err (Refused index why)) = RefusesFirst s ms index why
AnswersMany s ms (Err Memory) = CanSealInTurn s ms
