use Rattle.std.proofs.Common.{◌≡◌, ◌*◌, [], ◌∷◌, slice_index}
use Rattle.sha1.specs.Sha1.{word_at}
use Rattle.krb_digests.specs.Lanes.{message}
use Rattle.krb_digests.proofs.LaneLemmas.{each_word}
use Rattle.krb_digests.proofs.compression.words_of.Goals as goal

pub returns-clause-words : goal.returns-clause-words
returns-clause-words c j k h lt =
    let words =
    slice_index c.word_at.result j ∷ slice_index c.word_at-2.result j ∷ slice_index c.word_at-3.result j
    ∷ slice_index c.word_at-4.result j ∷ slice_index c.word_at-5.result j ∷ slice_index c.word_at-6.result j
    ∷ slice_index c.word_at-7.result j ∷ slice_index c.word_at-8.result j ∷ slice_index c.word_at-9.result j
    ∷ slice_index c.word_at-10.result j ∷ slice_index c.word_at-11.result j ∷ slice_index c.word_at-12.result j
    ∷ slice_index c.word_at-13.result j ∷ slice_index c.word_at-14.result j ∷ slice_index c.word_at-15.result j
    ∷ slice_index c.word_at-16.result j
    ∷ [] in
    each_word (λ n. slice_index words n ≡ word_at (message j c.args.blocks.now) (4 * n))
    (c.word_at.ensures j h) (c.word_at-2.ensures j h) (c.word_at-3.ensures j h) (c.word_at-4.ensures j h)
    (c.word_at-5.ensures j h) (c.word_at-6.ensures j h) (c.word_at-7.ensures j h) (c.word_at-8.ensures j h)
    (c.word_at-9.ensures j h) (c.word_at-10.ensures j h) (c.word_at-11.ensures j h) (c.word_at-12.ensures j h)
    (c.word_at-13.ensures j h) (c.word_at-14.ensures j h) (c.word_at-15.ensures j h) (c.word_at-16.ensures j h)
    k lt
