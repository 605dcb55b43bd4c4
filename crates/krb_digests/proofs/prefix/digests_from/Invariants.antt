use Rattle.std.proofs.Common.{◌≡◌, ℕ, ◌+◌, ◌<◌, ◌≤◌, List, ◌++◌, length}
use Rattle.sha1.specs.Sha1.{hash_after, padded_message, sha1}
use Rattle.krb_digests.specs.Lanes.{lane, message}
use Rattle.krb_digests.specs.Rest.{after_block, rest_blocks}
use Rattle.krb_digests.proofs.prefix.digests_from.Given as goal

abbrev pub invariant-loop-n : goal.invariant-loop-n
invariant-loop-n l =
    (block : List ℕ) (j : ℕ) → length block ≡ 64 → lane j l.fn.first ≡ after_block block → j < 8
    → (l.n ≤ rest_blocks (message j l.rests)
    → lane j l.state ≡ hash_after (padded_message (block ++ message j l.rests)) (l.n + 1))
    × (rest_blocks (message j l.rests) ≤ l.n → message j l.digests ≡ sha1 (block ++ message j l.rests))
