-- Before the sealing begins, out of memory is the only fault, and nothing is written.
use Rattle.std.proofs.KnownBytes.{Keeps-refl}
use Rattle.krb_commands.specs.declared.fault.Fault.TheVariants.{Memory}
use Rattle.krb_commands.specs.Fault.{IsOfSealing}
use Rattle.krb_commands.proofs.FaultLemmas.{if_fault, no_value, no_bad, nothing_written}
use Rattle.krb_commands.proofs.jobs.seal_sender.Goals as goal

pub returns-in_err-sealer-clause-printed : goal.returns-in_err-sealer-clause-printed
returns-in_err-sealer-clause-printed g c = no_value c.from_residual.result Memory c.from_residual.ensures.1 _

pub returns-in_err-sealer-clause-status : goal.returns-in_err-sealer-clause-status
returns-in_err-sealer-clause-status g c = no_value c.from_residual.result Memory c.from_residual.ensures.1 _

pub returns-in_err-sealer-clause-bad_plan : goal.returns-in_err-sealer-clause-bad_plan
returns-in_err-sealer-clause-bad_plan g c = λ bad named. absurd (no_bad c.from_residual.result c.from_residual.ensures.1 bad named)

pub returns-in_err-sealer-clause-bad_plan_prints_nothing : goal.returns-in_err-sealer-clause-bad_plan_prints_nothing
returns-in_err-sealer-clause-bad_plan_prints_nothing g c = λ bad named. Keeps-refl _

pub returns-in_err-sealer-clause-prefix : goal.returns-in_err-sealer-clause-prefix
returns-in_err-sealer-clause-prefix g c = nothing_written c.from_residual.result _ _

pub returns-in_err-sealer-clause-faults : goal.returns-in_err-sealer-clause-faults
returns-in_err-sealer-clause-faults g c = if_fault c.from_residual.result Memory IsOfSealing c.from_residual.ensures.1 tt

pub returns-in_err-new-clause-printed : goal.returns-in_err-new-clause-printed
returns-in_err-new-clause-printed g c = no_value c.from_residual-in_err-new.result Memory c.from_residual-in_err-new.ensures.1 _

pub returns-in_err-new-clause-status : goal.returns-in_err-new-clause-status
returns-in_err-new-clause-status g c = no_value c.from_residual-in_err-new.result Memory c.from_residual-in_err-new.ensures.1 _

pub returns-in_err-new-clause-bad_plan : goal.returns-in_err-new-clause-bad_plan
returns-in_err-new-clause-bad_plan g c = λ bad named. absurd (no_bad c.from_residual-in_err-new.result c.from_residual-in_err-new.ensures.1 bad named)

pub returns-in_err-new-clause-bad_plan_prints_nothing : goal.returns-in_err-new-clause-bad_plan_prints_nothing
returns-in_err-new-clause-bad_plan_prints_nothing g c = λ bad named. Keeps-refl _

pub returns-in_err-new-clause-prefix : goal.returns-in_err-new-clause-prefix
returns-in_err-new-clause-prefix g c = nothing_written c.from_residual-in_err-new.result _ _

pub returns-in_err-new-clause-faults : goal.returns-in_err-new-clause-faults
returns-in_err-new-clause-faults g c = if_fault c.from_residual-in_err-new.result Memory IsOfSealing c.from_residual-in_err-new.ensures.1 tt

pub returns-clause-printed : goal.returns-clause-printed
returns-clause-printed g c = c.seal_with.ensures.printed

pub returns-clause-status : goal.returns-clause-status
returns-clause-status g c = c.seal_with.ensures.status

pub returns-clause-bad_plan : goal.returns-clause-bad_plan
returns-clause-bad_plan g c = c.seal_with.ensures.bad_plan

pub returns-clause-bad_plan_prints_nothing : goal.returns-clause-bad_plan_prints_nothing
returns-clause-bad_plan_prints_nothing g c = c.seal_with.ensures.bad_plan_prints_nothing

pub returns-clause-prefix : goal.returns-clause-prefix
returns-clause-prefix g c = c.seal_with.ensures.prefix

pub returns-clause-faults : goal.returns-clause-faults
returns-clause-faults g c = c.seal_with.ensures.faults
