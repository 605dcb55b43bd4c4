-- The parts of a session's end at a sender.
use Rattle.krb_carry.specs.Progress.{progress_of}
use Rattle.krb_engine.specs.declared.parts.SendingParts.{SendingParts}
use Rattle.krb_engine.specs.SendingState.{SendingState}

-- the end that has these parts
abbrev pub end_of_parts : SendingParts → SendingState
end_of_parts parts = record {
  progress = progress_of parts.next parts.carried parts.at parts.sent;
  done = parts.done;
  list = parts.list;
  recovers = parts.recovers;
  window = parts.window;
  ask = parts.ask;
  is_held = parts.is_held;
  again = parts.again;
  probe = parts.probe;
  is_answered = parts.is_answered;
  ended = parts.ended;
}
