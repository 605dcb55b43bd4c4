use Rattle.std.proofs.Common.{◌≡◌, length, take}
use Rattle.krb_core.specs.Stepped.{after}
use Rattle.krb_core.proofs.stepped.Stepped.run.Given as goal

abbrev pub invariant-loop-turn : goal.invariant-loop-turn
invariant-loop-turn l = record {
  count : length l.self.tracks ≡ length l.initial.self.tracks;
  relay : l.self ≡ after l.initial.self (take l.turn-index l.turns);
}
