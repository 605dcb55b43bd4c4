-- The state of a sealer, from its parts, and what it keeps of them.
use Rattle.std.specs.Prelude.{◌≡◌, ◌≤◌, ℕ}
use Rattle.krb_etype.specs.declared.etype.Etype.{Etype}
use Rattle.krb_etype.specs.declared.private_keys.End.TheVariants.{Sealer}
use Rattle.krb_etype.specs.Etype.{number_of}
use Rattle.krb_etype.specs.HeldKeys.{HeldKeys}
use Rattle.krb_seal.specs.declared.session.Session.{Session}
use Rattle.krb_seal.specs.Mode.{purpose_of}
use Rattle.krb_seal.specs.Session.{HasShortAddresses}
use Rattle.krb_seal.specs.Sealer.{SealerState, end_of_numbers}

abbrev pub state_of : Etype → HeldKeys → Session → ℕ → SealerState
state_of etype keys session next =
    record {
      etype = number_of etype;
      key = keys.key;
      session = session;
      next = next;
      wiped = keys.wiped;
    }

-- Its addresses are short, its number is in range, and its keys are a sealer's for its mode.
pub record IsReady (keys : HeldKeys) (session : Session) (next : ℕ) : Type 0 where
  pub addresses : HasShortAddresses session
  pub number : next ≤ end_of_numbers
  pub direction : keys.end ≡ Sealer
  pub purpose : keys.purpose ≡ purpose_of session.mode
