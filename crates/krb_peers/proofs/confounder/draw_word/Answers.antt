use Rattle.std.proofs.Common.{rules, ◌≡◌, ap, ◌∙◌}
use Rattle.std.specs.Int.{w32, to_le_bytes}
use Rattle.krb_peers.specs.Draws.{word_bytes, after_word}
use Rattle.krb_peers.proofs.confounder.draw_word.Goals as goal

pub returns-clause-bytes : goal.returns-clause-bytes
unfolding word_bytes
returns-clause-bytes c =
    let as_bytes : c.to_le_bytes.result ≡ to_le_bytes w32 c.next_word.result = search rules in
    as_bytes ∙ ap (λ p. to_le_bytes w32 p.0) c.next_word.ensures

pub returns-clause-after : goal.returns-clause-after
unfolding after_word
returns-clause-after c = ap (λ p. p.1) c.next_word.ensures
