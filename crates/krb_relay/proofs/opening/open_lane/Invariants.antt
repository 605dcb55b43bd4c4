use Rattle.std.proofs.Common.{◌≡◌, ◌≤◌}
use Rattle.std.specs.VecDeque.{deque_len, deque_capacity}
use Rattle.krb_relay.specs.Opening.{HasJudged}
use Rattle.krb_relay.proofs.opening.open_lane.Given as goal

abbrev pub invariant-loop-k : goal.invariant-loop-k
invariant-loop-k l = record {
  came : l.waiting.came ≡ l.fn.waiting.came;
  frames : l.waiting.frames ≡ l.fn.waiting.frames;
  last : l.waiting.last ≡ l.fn.waiting.last;
  sofar : deque_len l.waiting.verdicts ≡ l.k;
  room : l.count ≤ deque_capacity l.waiting.verdicts;
  judged : HasJudged l.fn.receiving l.place l.fn.waiting.frames.items l.waiting.verdicts.items l.receiving;
}
