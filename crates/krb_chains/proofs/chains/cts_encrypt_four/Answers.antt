use Rattle.std.proofs.Common.{rules, ◌+◌, ◌*◌, ◌<◌, length, take, drop, arith, ◌∙◌}
use Rattle.std.proofs.lemmas.List.{length-take-le}
use Rattle.krb_chains.proofs.ChainLemmas.{first_picked, second_picked, rest_written}
use Rattle.krb_chains.proofs.chains.cts_encrypt_four.Goals as goal

pub returns-clause-a : goal.returns-clause-a
returns-clause-a c =
    let w = c.args.schedule.now in
    let at = 16 * c.min-count.result in
    let last = c.chain_fronts.result.0 in
    let more : at + 16 < length c.args.a.now = omega (arith, c.front_blocks.ensures (omega arith)) in
    rest_written w c.args.a.now c.chain_fronts.new.a c.encrypt_from.new.text (take 16 last) _ at more
    (c.chain_fronts.auto.a ∙ length-take-le at c.args.a.now (omega (arith, more)))
    (c.chain_fronts.ensures.a w c.forward-turns.ensures.keys) (first_picked last (search rules)) (c.encrypt_from.ensures w c.forward-turns.ensures.keys)

pub returns-clause-b : goal.returns-clause-b
returns-clause-b c =
    let w = c.args.schedule.now in
    let at = 16 * c.min-count.result in
    let last = c.chain_fronts.result.0 in
    let more : at + 16 < length c.args.b.now = omega (arith, c.front_blocks-2.ensures (omega arith)) in
    rest_written w c.args.b.now c.chain_fronts.new.b c.encrypt_from-2.new.text (drop 16 last) _ at more
    (c.chain_fronts.auto.b ∙ length-take-le at c.args.b.now (omega (arith, more)))
    (c.chain_fronts.ensures.b w c.forward-turns.ensures.keys) (second_picked last (search rules)) (c.encrypt_from-2.ensures w c.forward-turns.ensures.keys)

pub returns-clause-c : goal.returns-clause-c
returns-clause-c c =
    let w = c.args.schedule.now in
    let at = 16 * c.min-count.result in
    let last = c.chain_fronts.result.1 in
    let more : at + 16 < length c.args.c.now = omega (arith, c.front_blocks-3.ensures (omega arith)) in
    rest_written w c.args.c.now c.chain_fronts.new.c c.encrypt_from-3.new.text (take 16 last) _ at more
    (c.chain_fronts.auto.c ∙ length-take-le at c.args.c.now (omega (arith, more)))
    (c.chain_fronts.ensures.c w c.forward-turns.ensures.keys) (first_picked last (search rules)) (c.encrypt_from-3.ensures w c.forward-turns.ensures.keys)

pub returns-clause-d : goal.returns-clause-d
returns-clause-d c =
    let w = c.args.schedule.now in
    let at = 16 * c.min-count.result in
    let last = c.chain_fronts.result.1 in
    let more : at + 16 < length c.args.d.now = omega (arith, c.front_blocks-4.ensures (omega arith)) in
    rest_written w c.args.d.now c.chain_fronts.new.d c.encrypt_from-4.new.text (drop 16 last) _ at more
    (c.chain_fronts.auto.d ∙ length-take-le at c.args.d.now (omega (arith, more)))
    (c.chain_fronts.ensures.d w c.forward-turns.ensures.keys) (second_picked last (search rules)) (c.encrypt_from-4.ensures w c.forward-turns.ensures.keys)
