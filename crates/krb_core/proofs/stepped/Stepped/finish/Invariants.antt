use Rattle.std.proofs.Common.{◌≡◌, length}
use Rattle.krb_core.specs.Finish.{finishing}
use Rattle.krb_core.proofs.TurnLemmas.{HasServed, left_over}
use Rattle.krb_core.proofs.stepped.Stepped.finish.Given as goal

abbrev pub invariant-loop : goal.invariant-loop
invariant-loop l = record {
  count : length l.self.tracks ≡ length l.initial.self.tracks;
  served : HasServed (finishing l.initial.self.tracks) (left_over l.end l.counter (length l.initial.self.tracks)) l.initial.self l.self;
}
