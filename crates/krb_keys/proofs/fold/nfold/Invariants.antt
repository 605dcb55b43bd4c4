use Rattle.std.proofs.Common.{◌≡◌, ℕ, ◌*◌, ◌<◌, get_or}
use Rattle.krb_keys.specs.Nfold.{number, end_around, sum_of_pieces}
use Rattle.krb_keys.specs.Stream.{stream_byte, value}
use Rattle.krb_keys.proofs.fold.nfold.Given as goal

abbrev pub invariant-loop-p : goal.invariant-loop-p
invariant-loop-p l = record {
  sum : number l.out ≡ end_around (8 * l.n) (sum_of_pieces (8 * l.n) l.p (value (stream_byte l.input) (l.p * l.n)));
  bytes : (i : ℕ) → get_or l.out i 0 < 256;
}
