use Rattle.std.proofs.Common.{◌≡◌, ℕ, ◌+◌, ◌<◌, get_or}
use Rattle.krb_keys.specs.Stream.{stream_byte}
use Rattle.krb_keys.proofs.fold.fill_piece.Given as goal

abbrev pub invariant-loop-k : goal.invariant-loop-k
invariant-loop-k l = (k : ℕ) → k < l.k → get_or l.piece k 0 ≡ stream_byte l.text (l.start + k)
