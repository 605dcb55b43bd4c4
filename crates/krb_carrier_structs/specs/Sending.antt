-- A session's end at a sender, of C's.
use Rattle.std.specs.Prelude.{◌≡◌, ℕ, ◌+◌, ◌<◌, ◌≤◌, ◌^◌, ◌==◌, Option, Some, None, if◌then◌else◌}
use Rattle.krb_engine.specs.declared.pause.Pause.{Pause}
use Rattle.krb_engine.specs.declared.parts.SendingParts.{SendingParts}
use Rattle.krb_engine.specs.Parts.{end_of_parts}
use Rattle.krb_engine.specs.SendingState.{SendingState, IsEnd}
use Rattle.krb_carrier_structs.specs.declared.pause.KrbPause.{KrbPause}
use Rattle.krb_carrier_structs.specs.declared.sending.KrbSending.{KrbSending}
use Rattle.krb_carrier_structs.specs.Numbers.{says, told_ended}
use Rattle.krb_carrier_structs.specs.Pause.{told_pause}

-- a pause, if the flag says so
abbrev pub when : ℕ → KrbPause → Option Pause
when flag pause = if flag == 0 then None else Some (told_pause pause)

abbrev pub told_parts : KrbSending → SendingParts
told_parts s = record {
  next = s.progress.next;
  carried = s.progress.carried;
  at = s.progress.at;
  sent = s.progress.sent;
  done = s.done;
  list = s.list;
  recovers = s.recovers;
  window = s.window;
  ask = when s.is_asked s.ask;
  is_held = says s.is_held;
  again = told_pause s.again;
  probe = told_pause s.probe;
  is_answered = says s.is_answered;
  ended = told_ended s.ended;
}

-- the end with the numbers of the struct
abbrev pub told_sending : KrbSending → SendingState
told_sending s = end_of_parts (told_parts s)

-- the numbers are those of an end
pub record IsSending (s : KrbSending) : Type 0 where
  pub ended : s.ended ≤ 2
  pub is_end : IsEnd (told_sending s)

-- they are those of this end
pub record Tells (s : KrbSending) (state : SendingState) : Type 0 where
  pub is_sending : IsSending s
  pub value : told_sending s ≡ state

-- they are, and so many frames more have numbers
pub record CanSeal (s : KrbSending) (count : ℕ) : Type 0 where
  pub is_sending : IsSending s
  pub fits : s.progress.next + count < 2 ^ 64
