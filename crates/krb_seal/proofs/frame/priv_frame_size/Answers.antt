use Rattle.std.proofs.Common.{◌+◌, ◌≤◌, arith}
use Rattle.krb_base.specs.Limits.{frame_limit}
use Rattle.krb_seal.proofs.FrameSizes.{part_within, priv_size_of}
use Rattle.krb_seal.proofs.frame.priv_frame_size.Goals as goal

pub overflow_add-text : goal.overflow_add-text
overflow_add-text c =
    let small : 16 + c.part_size_with-text.result + 12 ≤ frame_limit = part_within c.args.body.now c.args.len _ c.requires.small c.requires.limit c.part_size_with-text.ensures in
    omega (arith, small)

pub overflow_add-text-2 : goal.overflow_add-text-2
overflow_add-text-2 c =
    let small : 16 + c.part_size_with-text.result + 12 ≤ frame_limit = part_within c.args.body.now c.args.len _ c.requires.small c.requires.limit c.part_size_with-text.ensures in
    omega (arith, small)

pub enciphered_size-requires : goal.enciphered_size-requires
enciphered_size-requires c = part_within c.args.body.now c.args.len _ c.requires.small c.requires.limit c.part_size_with-text.ensures

pub returns : goal.returns
returns c =
    priv_size_of c.args.etype c.args.body.now c.args.len c.part_size_with-text.result c.enciphered_size.result c.part_size_with-text.ensures c.enciphered_size.ensures
