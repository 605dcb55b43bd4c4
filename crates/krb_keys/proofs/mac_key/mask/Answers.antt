use Rattle.std.proofs.Common.{List, ℕ, ◌++◌, map, bit_xor, get_or, ap₂, ◌∙◌, arith}
use Rattle.std.proofs.lemmas.List.Edits.{map_over_more}
use Rattle.std.proofs.lemmas.List.{take_all, drop_all, append-nil, get_or_default}
use Rattle.krb_keys.proofs.mac_key.mask.Goals as goal

pub loop-b-preserved : goal.loop-b-preserved
loop-b-preserved c = map_over_more (λ b. bit_xor b c.args.byte) c.args.block.now c.loop-b.block c.loop-b.b-index
    (get_or c.loop-b.block c.loop-b.b-index 0) c.loop-b-test.true c.loop-b.invariant
    (get_or_default c.loop-b.block c.loop-b.b-index 0 (get_or c.loop-b.block c.loop-b.b-index 0) (omega arith))

pub returns : goal.returns
returns c =
    c.loop-b.invariant
    ∙ ap₂ (λ (x y : List ℕ). map (λ b. bit_xor b c.args.byte) x ++ y)
    (take_all c.loop-b.b-index c.args.block.now c.loop-b-test.false)
    (drop_all c.loop-b.b-index c.args.block.now c.loop-b-test.false)
    ∙ append-nil (map (λ b. bit_xor b c.args.byte) c.args.block.now)
