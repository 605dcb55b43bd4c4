use Rattle.std.proofs.Common.{◌≡◌, ◌∷◌, ◌++◌, [], length, ap, arith, length-append}
use Rattle.krb_record.proofs.BatchLemmas.{counted, texts_more, no_more}
use Rattle.krb_record.proofs.batch.count_texts.Goals as goal

pub overflow_add-count : goal.overflow_add-count
overflow_add-count c =
    let i = c.loop-after.invariant in
    omega (arith, counted c.args.bytes.now i.0 c.loop-after.rest.now i.1, i.2, c.requires)

pub loop-after-preserved : goal.loop-after-preserved
loop-after-preserved c =
    let i = c.loop-after.invariant in
    let text = c.in-Some.field-0-0.now in
    (i.0 ++ text ∷ [], texts_more _ i.0 c.loop-after.rest.now text c.in-Some.after.now i.1 c.in-Some.ensures.found, omega (arith, length-append i.0 (text ∷ []), i.2))

pub returns-else-is_empty-clause-none : goal.returns-else-is_empty-clause-none
returns-else-is_empty-clause-none c texts e =
    let i = c.loop-after.invariant in
    let r = no_more c.args.bytes.now c.loop-after.rest.now i.0 texts c.requires i.1 c.in_default.ensures.none e in
    let n : length c.loop-after.rest.now ≡ 0 = ap length r.1 in
    let off = c.if-is_empty.false in
    let is = c.is_empty.ensures in
    grind (arith, n, off, is)
