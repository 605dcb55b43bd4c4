use Rattle.std.proofs.Common.{rules, ◌++◌, length, ap, ◌∙◌}
use Rattle.krb_digests.proofs.EndLemmas.{cut_padding, three_parts}
use Rattle.krb_digests.proofs.blocks.write_end.Goals as goal

pub returns : goal.returns
returns c =
    let left = c.args.left.now in
    let bits = c.args.bits in
    rw (c.copy_from_slice.ensures.after, c.copy_from_slice-2.ensures.after, c.copy_from_slice-3.ensures.after) (
    three_parts left _ bits _ c.args.size _ _ (search rules) (search rules)
    ∙ ap (λ p. left ++ (p ++ bits)) (cut_padding c.args.size (length left) c.requires.room c.requires.near)
    )
