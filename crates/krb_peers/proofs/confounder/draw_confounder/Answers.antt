-- Four words, one after another.
use Rattle.std.proofs.Common.{ap, ◌∙◌}
use Rattle.krb_peers.specs.Draws.{word_bytes, after_word}
use Rattle.krb_peers.proofs.DrawsLemmas.{sixteen}
use Rattle.krb_peers.proofs.confounder.draw_confounder.Goals as goal

pub returns-clause-bytes : goal.returns-clause-bytes
returns-clause-bytes c =
    let first = c.draw_word.ensures.after in
    let second = c.draw_word-2.ensures.after ∙ ap after_word first in
    let third = c.draw_word-3.ensures.after ∙ ap after_word second in
    sixteen _ _ _ _ _ _ _ _
    c.draw_word.ensures.len c.draw_word-2.ensures.len c.draw_word-3.ensures.len c.draw_word-4.ensures.len
    c.draw_word.ensures.bytes
    (c.draw_word-2.ensures.bytes ∙ ap word_bytes first)
    (c.draw_word-3.ensures.bytes ∙ ap word_bytes second)
    (c.draw_word-4.ensures.bytes ∙ ap word_bytes third)

pub returns-clause-after : goal.returns-clause-after
returns-clause-after c =
    let first = c.draw_word.ensures.after in
    let second = c.draw_word-2.ensures.after ∙ ap after_word first in
    let third = c.draw_word-3.ensures.after ∙ ap after_word second in
    c.draw_word-4.ensures.after ∙ ap after_word third
