-- What each thing that happens makes of a session's end at a receiver.
use Rattle.std.specs.Prelude.{◌≡◌, ℕ, ◌+◌, nat_lt, Bool, true, false, List, Option, Some, None, unwrap_or}
use Rattle.std.specs.Prelude.{if◌then◌else◌}
use Rattle.krb_engine.specs.Pause.{begun}
use Rattle.krb_carry.specs.History.{with_frame}
use Rattle.krb_engine.specs.declared.sending.Asks.{Asks}
use Rattle.krb_engine.specs.declared.sending.Asks.TheVariants as asks
use Rattle.krb_engine.specs.declared.receiving.Outcome.{Outcome}
use Rattle.krb_engine.specs.declared.receiving.Outcome.TheVariants.{Accepted, Repeat, Early, Unknown, Unsettled}
use Rattle.krb_engine.specs.declared.receiving.Row.{Row}
use Rattle.krb_engine.specs.declared.receiving.Seen.{Seen}
use Rattle.krb_engine.specs.declared.receiving.Receiving.{Receiving}

-- the store has this row of it
abbrev pub has_row : Row → ℕ → Receiving
has_row row now = record { stored = row; drafted = row; is_open = false; owed = None; paid = begun 0 now }

-- what a refused frame is taken for, by the number at which it opens if nothing is demanded of its
-- number, time and addresses
abbrev pub by_number : ℕ → Option ℕ → Outcome
by_number demanded (Some number) =
    if nat_lt number demanded then Repeat else (if nat_lt demanded number then Early else Unsettled)
by_number demanded None = Unknown

-- What a frame is taken for. After the close all are repeats.
abbrev pub outcome : Row → Seen → Outcome
outcome row seen =
    if row.closed then Repeat
    else (if seen.accepted then Accepted else by_number row.demanded.number seen.opened)

-- after one frame more took effect
abbrev pub after_frame : Row → List ℕ → Bool → Row
after_frame row frame is_close = record {
  demanded = record {
    number = row.demanded.number + 1;
    history = with_frame row.demanded.history frame;
  };
  closed = is_close;
}

abbrev pub drafted_after : Row → List ℕ → Seen → Outcome → Row
drafted_after row frame seen Accepted = after_frame row frame seen.is_close
drafted_after row frame seen Repeat = row
drafted_after row frame seen Early = row
drafted_after row frame seen Unknown = row
drafted_after row frame seen Unsettled = row

-- What the owed receipt asks for. Whatever is the session's is owed one: a repeat changes nothing that is
-- asked for; what is early asks for the demanded frame, unless a refusal asked; and what is accepted is asked
-- for no more.
abbrev pub early_owes : Option Asks → Option Asks
early_owes None = Some asks.Missing
early_owes (Some asks.Nothing) = Some asks.Missing
early_owes (Some asks.Missing) = Some asks.Missing
early_owes (Some asks.Refused) = Some asks.Refused

abbrev pub owes : Option Asks → Outcome → Option Asks
owes owed Accepted = Some asks.Nothing
owes owed Repeat = Some (unwrap_or owed asks.Nothing)
owes owed Early = early_owes owed
owes owed Unknown = owed
owes owed Unsettled = Some asks.Refused

abbrev pub took : Receiving → List ℕ → Seen → Receiving
took state frame seen = record state {
  drafted = drafted_after state.drafted frame seen (outcome state.drafted seen);
  is_open = true;
  owed = owes state.owed (outcome state.drafted seen);
}

-- the transaction took effect, or not
abbrev pub stored : Receiving → Receiving
stored state = record state { stored = state.drafted; is_open = false }

abbrev pub dropped : Receiving → Receiving
dropped state = record state { drafted = state.stored; is_open = false; owed = None }

-- the receipt leaves
abbrev pub receipt_pause : ℕ
receipt_pause = 200

abbrev pub answered : Receiving → ℕ → Receiving
answered state now = record state { owed = None; paid = begun receipt_pause now }
