use Rattle.std.proofs.Common.{◌≡◌, ◌++◌, ap, ◌∙◌}
use Rattle.sha1.specs.Sha1.{digest_bytes, hash_after, padded_message}
use Rattle.krb_digests.specs.Lanes.{lane, message}
use Rattle.krb_digests.proofs.DigestLemmas.{hash_first, hash_next, digest_is}
use Rattle.krb_digests.proofs.prefix.digests_of_20_from.Goals as goal

pub returns : goal.returns
returns c block j size prefix lt =
    let rest = message j c.args.messages.now in
    let p = padded_message (block ++ rest) in
    let first : lane j c.args.first.now ≡ hash_after p 1 = prefix ∙ hash_first block rest size in
    let next : lane j c.compress.new.state ≡ hash_after p 2 =
    c.compress.ensures j lt ∙ rw (first, c.blocks_of_20.ensures.blocks j lt) (hash_next block rest 0 size) in
    c.digests_of.ensures j lt ∙ ap (λ s. digest_bytes s 5) next ∙ digest_is block rest 1 size (c.blocks_of_20.ensures.one j lt)
