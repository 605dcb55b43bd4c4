use Rattle.std.proofs.Common.{◌≡◌, ◌-◌, length}
use Rattle.krb_core.specs.Finish.{round_turns}
use Rattle.krb_core.proofs.TurnLemmas.{HasServed}
use Rattle.krb_core.proofs.stepped.Stepped.round.Given as goal

abbrev pub invariant-loop-lane : goal.invariant-loop-lane
invariant-loop-lane l = record {
  count : length l.self.tracks ≡ length l.initial.self.tracks;
  served : HasServed (round_turns 0 (length l.initial.self.tracks)) (round_turns l.lane (length l.initial.self.tracks - l.lane)) l.initial.self l.self;
}
