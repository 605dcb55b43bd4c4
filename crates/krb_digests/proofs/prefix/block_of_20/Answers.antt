use Rattle.std.proofs.Common.{◌≡◌, ◌++◌, length, arith, sym}
use Rattle.std.proofs.lemmas.List.{length-append, take_all}
use Rattle.sha1.specs.Sha1.{padding}
use Rattle.krb_digests.specs.Rest.{rest_block}
use Rattle.krb_digests.proofs.prefix.block_of_20.Goals as goal

pub returns-clause-block : goal.returns-clause-block
returns-clause-block c =
    let b = c.args.bytes.now in
    let size : length b ≡ 20 = omega arith in
    let whole : rest_block b 0 ≡ b ++ padding 84 =
    rw size (take_all 64 (b ++ padding 84) (omega (arith, size, length-append b (padding 84)))) in
    rw (c.copy_from_slice.ensures.after) (sym whole)
