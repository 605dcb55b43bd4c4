use Rattle.std.proofs.Common.{◌≡◌, ◌+◌, ◌≤◌, ◌++◌, arith, ap, inl, inr, ◌∙◌}
use Rattle.std.proofs.lemmas.Bool.{cases_lt}
use Rattle.sha1.specs.Sha1.{digest_bytes, hash_after, padded_message}
use Rattle.krb_digests.specs.Lanes.{lane, message}
use Rattle.krb_digests.specs.Rest.{rest_blocks}
use Rattle.krb_digests.proofs.DigestLemmas.{hash_first, hash_next, digest_is}
use Rattle.krb_digests.proofs.EndLemmas.{length-padded}
use Rattle.krb_digests.proofs.prefix.digests_from.Goals as goal

pub loop-n-init : goal.loop-n-init
loop-n-init c block j size prefix lt =
    let rest = message j c.rests-rests.result in (
      λ le. prefix ∙ hash_first block rest size,
      λ le. absurd (omega (arith, length-padded rest)),
    )

pub loop-n-preserved : goal.loop-n-preserved
loop-n-preserved c block j size prefix lt =
    let rest = message j c.rests-rests.result in
    let p = padded_message (block ++ rest) in
    let n = c.loop-n.n in
    let before = c.loop-n.invariant block j size prefix lt in
    let next : n + 1 ≤ rest_blocks rest → lane j c.compress.new.state ≡ hash_after p (n + 1 + 1) = λ le.
    c.compress.ensures j lt
    ∙ rw (before.0 (omega arith), c.blocks_at.ensures j lt (omega arith)) (hash_next block rest n size) in (
      next,
      λ le. elim (cases_lt n (rest_blocks rest)) [
        | inl more ↦
            let all : rest_blocks rest ≡ n + 1 = omega arith in
            c.note_ended.ensures.ended j lt all ∙ ap (λ s. digest_bytes s 5) (next (omega arith)) ∙ digest_is block rest (n + 1) size all
        | inr done ↦ c.note_ended.ensures.kept j (λ e. absurd (omega (arith, e, done))) ∙ before.1 done
      ],
    )
