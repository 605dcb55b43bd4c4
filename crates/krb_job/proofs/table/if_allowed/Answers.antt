use Rattle.std.proofs.Common.{refl, sym, ◌∙◌}
use Rattle.krb_job.proofs.table.if_allowed.Goals as goal
use Rattle.krb_job.proofs.table.if_allowed.Goals.{in_default-via-in-Some+else-allowed, in_default-via-in-None+else-not-allowed}

pub returns-in-Some-clause-value : goal.returns-in-Some-clause-value
returns-in-Some-clause-value c = rw (c.if-allowed.true, ← c.in-Some.ensures) refl

pub returns-in-None-clause-value : goal.returns-in-None-clause-value
returns-in-None-clause-value c = rw (c.if-not-allowed.true, ← c.in-None.ensures) refl

pub returns-in-None-clause-there : goal.returns-in-None-clause-there
returns-in-None-clause-there c = λ allowed. sym c.if-not-allowed.true ∙ allowed

pub returns-in_default-clause-value : goal.returns-in_default-clause-value
returns-in_default-clause-value c = elim c.in_default.branch [
  | in_default-via-in-Some+else-allowed w ↦ rw (w.if-allowed.false, ← w.in-Some.ensures) refl
  | in_default-via-in-None+else-not-allowed w ↦ rw (w.if-not-allowed.false, ← w.in-None.ensures) refl
]
