-- What a caller knows of a sealer.
use Rattle.std.specs.Prelude.{◌≡◌, ℕ, ◌+◌, ℤ, List, length, replicate, Bool, true, false}
use Rattle.krb_base.specs.Limits.{last_number}
use Rattle.krb_seal.specs.declared.session.Mode.{Mode}
use Rattle.krb_seal.specs.declared.session.Session.{Session}
use Rattle.krb_seal.specs.Seals.{Seals}

-- What contracts see of a sealer.
pub record SealerState : Type 0 where
  pub etype : ℤ
  pub key : List ℕ
  pub session : Session
  pub next : ℕ
  pub wiped : Bool

-- One over the last number, which no message has.
abbrev pub end_of_numbers : ℕ
end_of_numbers = last_number + 1

-- A new sealer.
abbrev pub new_state : ℤ → List ℕ → Session → SealerState
new_state etype key session =
    record { etype = etype; key = key; session = session; next = session.first; wiped = false }

-- The sealer after a sealed frame.
abbrev pub advanced : SealerState → SealerState
advanced s = record s { next = s.next + 1 }

-- The sealer in this mode from now on.
abbrev pub in_mode : SealerState → Mode → SealerState
in_mode s mode = record s { session = record s.session { mode = mode } }

-- The sealer after a wipe.
abbrev pub wiped_state : SealerState → SealerState
wiped_state s = record s { key = replicate (length s.key) 0; wiped = true }

-- The bytes seal this data at the next number.
abbrev pub SealsNext : SealerState → List ℕ → ℕ → List ℕ → List ℕ → Type 0
SealsNext s user at conf bytes = Seals s.etype s.key s.session s.next user at conf bytes

-- Each frame that seals n bytes of user data at the next number and this timestamp has this size.
abbrev pub HasFrameSize : SealerState → ℕ → ℕ → ℕ → Type 0
HasFrameSize s n at size =
    (user conf frame : List ℕ) → length user ≡ n → SealsNext s user at conf frame
    → length frame ≡ size
