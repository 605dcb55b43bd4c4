use Rattle.std.proofs.Common.{◌≡◌, ◌∷◌, rules, arith}
use Rattle.std.proofs.lemmas.Grind.{common_steps}
use Rattle.krb_record.specs.Record.{SpellsRecord}
use Rattle.krb_record.specs.declared.record.Record.TheVariants.{Text, Batch, Close}
use Rattle.krb_record.proofs.RecordLemmas.{IsOther, other_by, batch_only, batch_bad, bad-ok, bad-memory}
use Rattle.krb_record.proofs.record.read_record.Goals as goal
use Rattle.krb_record.proofs.record.read_record.Goals.{in_default-first-via-in-68+else-rest-le-TEXT_LIMIT, in_default-first-via-in-67+else-is_empty, in_default-first-via-in_default-1}

pub returns-in-67-clause-bad : goal.returns-in-67-clause-bad
returns-in-67-clause-bad c =
    let spells : SpellsRecord Close c.args.bytes.now = grind (arith, common_steps) in
    bad-ok Close c.args.bytes.now Close spells

pub returns-in_ok-text-in-68-clause-bad : goal.returns-in_ok-text-in-68-clause-bad
returns-in_ok-text-in-68-clause-bad c =
    let spells : SpellsRecord (Text c.in-Some.rest.now) c.args.bytes.now = (omega arith, grind (arith, common_steps)) in
    bad-ok _ c.args.bytes.now (Text c.in-Some.rest.now) spells

pub returns-in_err-text-in-68-clause-bad : goal.returns-in_err-text-in-68-clause-bad
returns-in_err-text-in-68-clause-bad c =
    let spells : SpellsRecord (Text c.in-Some.rest.now) c.args.bytes.now = (omega arith, grind (arith, common_steps)) in
    bad-memory _ c.args.bytes.now (Text c.in-Some.rest.now) spells c.from_residual.ensures.1

pub returns-in_err-text-in-68-clause-memory : goal.returns-in_err-text-in-68-clause-memory
returns-in_err-text-in-68-clause-memory c =
    let spells : SpellsRecord (Text c.in-Some.rest.now) c.args.bytes.now = (omega arith, grind (arith, common_steps)) in
    λ is. (Text c.in-Some.rest.now, spells, λ e. let is = e in cc)

-- here the bytes are neither a text nor the close
other_bytes : (c : goal.After-batch_record) → IsOther c.args.bytes.now
other_bytes c =
    let is : c.args.bytes.now ≡ c.in-Some.first.now ∷ c.in-Some.rest.now = search rules in
    rw is (elim c.in_default-first.branch [
      | in_default-first-via-in-68+else-rest-le-TEXT_LIMIT w ↦ other_by c.in-Some.first.now c.in-Some.rest.now (λ tag short. search rules) (λ tag none. search rules)
      | in_default-first-via-in-67+else-is_empty w ↦ other_by c.in-Some.first.now c.in-Some.rest.now (λ tag short. search rules) (λ tag none. search rules)
      | in_default-first-via-in_default-1 w ↦ other_by c.in-Some.first.now c.in-Some.rest.now (λ tag short. search rules) (λ tag none. search rules)
    ])

pub returns-in_default-first-clause-only : goal.returns-in_default-first-clause-only
returns-in_default-first-clause-only c =
    let other : IsOther c.args.bytes.now = other_bytes c in
    batch_only c.args.bytes.now other c.batch_record.result c.batch_record.ensures.ok c.batch_record.ensures.bad.0

pub returns-in_default-first-clause-bad : goal.returns-in_default-first-clause-bad
returns-in_default-first-clause-bad c =
    let other : IsOther c.args.bytes.now = other_bytes c in
    batch_bad c.args.bytes.now other c.batch_record.result c.batch_record.ensures.bad

pub returns-in_default-first-clause-memory : goal.returns-in_default-first-clause-memory
returns-in_default-first-clause-memory c = λ is.
    let some = c.batch_record.ensures.memory is in
    (Batch some.0, (some.1.0, some.1.1), λ e. let f = e in cc)
