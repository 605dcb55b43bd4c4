use Rattle.std.proofs.Common.{◌≡◌, ℕ, ◌<◌, length}
use Rattle.sha1.specs.Sha1.{digest_bytes}
use Rattle.krb_digests.specs.Lanes.{lane, message}
use Rattle.krb_digests.specs.Rest.{rest_blocks}
use Rattle.krb_digests.proofs.prefix.note_ended.Given as goal

abbrev pub invariant-loop-j : goal.invariant-loop-j
invariant-loop-j l =
    (length l.digests ≡ 8)
    × ((i : ℕ) → i < l.j → rest_blocks (message i l.rests) ≡ l.n → message i l.digests ≡ digest_bytes (lane i l.state) 5)
    × ((i : ℕ) → ¬ (rest_blocks (message i l.rests) ≡ l.n) → message i l.digests ≡ message i l.fn.digests)
