use Rattle.std.proofs.Common.{ℕ, ◌<◌, ◌≤◌}
use Rattle.krb_digests.specs.Lanes.{message}
use Rattle.krb_digests.specs.Rest.{rest_blocks}
use Rattle.krb_digests.proofs.prefix.most_blocks.Given as goal

abbrev pub invariant-loop-rest : goal.invariant-loop-rest
invariant-loop-rest l = (j : ℕ) → j < l.rest-index → rest_blocks (message j l.rests) ≤ l.most
