use Rattle.std.proofs.Common.{rules, slice_index, ◌%◌}
use Rattle.std.proofs.lemmas.List.{map-set}
use Rattle.krb_digests.proofs.LaneLemmas.{window_word_of}
use Rattle.krb_digests.proofs.compression.next_word.Goals as goal

pub returns-clause-value : goal.returns-clause-value
returns-clause-value c j h =
    window_word_of c.args.w.now j c.args.t (slice_index c.scheduled-word.result j) (search rules) (c.scheduled-word.ensures j h)

pub returns-clause-window : goal.returns-clause-window
returns-clause-window c j h =
    map-set (λ v. slice_index v j) c.args.w.now (c.args.t % 16) c.scheduled-word.result
