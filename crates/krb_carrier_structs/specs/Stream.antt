-- Sessions of a stream at a receiver, of C's.
use Rattle.std.specs.Prelude.{◌==◌, Option, Some, None, if◌then◌else◌}
use Rattle.krb_engine.specs.declared.stream.Head.{Head}
use Rattle.krb_engine.specs.declared.stream.Opening.{Opening}
use Rattle.krb_carrier_structs.specs.declared.stream.KrbHead.{KrbHead}
use Rattle.krb_carrier_structs.specs.declared.stream.KrbOpening.{KrbOpening}
use Rattle.krb_carrier_structs.specs.Numbers.{says}

-- the last session that the store has, if it has one
abbrev pub told_head : KrbHead → Option Head
told_head h =
    if h.turn == 0 then None
    else Some (record {
      turn = h.turn;
      closed = says h.closed;
      took = record { number = h.number; history = h.history };
    })

abbrev pub told_opening : KrbOpening → Opening
told_opening o = record {
  turn = o.turn;
  before = record { number = o.number; history = o.history };
}
