use Rattle.std.proofs.Common.{◌≤◌, length, arith}
use Rattle.krb_base.specs.Limits.{batch_limit}
use Rattle.krb_record.proofs.BatchLemmas.{is_batch, no_batch, small_batch}
use Rattle.krb_record.proofs.batch.texts_in_batch.Goals as goal

pub returns-then-body-gt-BATCH_SIZE_LIMIT-clause-none : goal.returns-then-body-gt-BATCH_SIZE_LIMIT-clause-none
returns-then-body-gt-BATCH_SIZE_LIMIT-clause-none c = λ texts batch is. omega (arith, small_batch c.args.body.now texts batch is, c.if-body-gt-BATCH_SIZE_LIMIT.true)

pub returns-then-contains-clause-some : goal.returns-then-contains-clause-some
returns-then-contains-clause-some c =
    let some = c.in_ok-count.ensures.some in
    let is = c.if-contains.true in
    let cases = c.if-contains.ensures.cases in
    let value = c.if-contains.ensures.value in
    let start = c.new.ensures.start in
    let end = c.new.ensures.end in
    let n = some.2 in
    let several : 2 ≤ length some.0 = grind (arith, is, cases, start, end, n) in
    let few : length some.0 ≤ batch_limit = grind (arith, is, cases, start, end, n) in
    (some.0, is_batch c.args.body.now some.0 (omega (arith, c.if-body-gt-BATCH_SIZE_LIMIT.false)) some.1 several few, some.1)

pub returns-else-contains-clause-none : goal.returns-else-contains-clause-none
returns-else-contains-clause-none c texts batch is =
    let some = c.in_ok-count.ensures.some in
    let off = c.if-contains.false in
    let cases = c.if-contains.ensures.cases in
    let start = c.new.ensures.start in
    let end = c.new.ensures.end in
    let n = some.2 in
    let b = no_batch c.args.body.now some.0 texts (omega (arith, c.if-body-gt-BATCH_SIZE_LIMIT.false)) some.1 batch is in
    let several = b.several in
    let few = b.few in
    grind (arith, off, cases, start, end, n, several, few)
