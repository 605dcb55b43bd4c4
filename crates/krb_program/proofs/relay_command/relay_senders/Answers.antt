-- Before the relay begins, out of memory is the only fault, and nothing is written.
use Rattle.std.proofs.KnownBytes.{Keeps-refl}
use Rattle.krb_commands.specs.declared.fault.Fault.TheVariants.{Memory}
use Rattle.krb_program.specs.RelayFault.{IsOfRelaying}
use Rattle.krb_commands.proofs.FaultLemmas.{if_fault, no_value, no_bad, nothing_written}
use Rattle.krb_program.proofs.FaultLemmas.{same_fault, no_stopped, no_thread}
use Rattle.krb_program.proofs.relay_command.relay_senders.Goals as goal

pub returns-in_err-sendings-clause-printed : goal.returns-in_err-sendings-clause-printed
returns-in_err-sendings-clause-printed g c = no_value c.from_residual.result Memory c.from_residual.ensures.1 _

pub returns-in_err-sendings-clause-bad_plan : goal.returns-in_err-sendings-clause-bad_plan
returns-in_err-sendings-clause-bad_plan g c = λ bad named. absurd (no_bad c.from_residual.result c.from_residual.ensures.1 bad named)

pub returns-in_err-sendings-clause-bad_plan_prints_nothing : goal.returns-in_err-sendings-clause-bad_plan_prints_nothing
returns-in_err-sendings-clause-bad_plan_prints_nothing g c = λ bad named. Keeps-refl _

pub returns-in_err-sendings-clause-stopped : goal.returns-in_err-sendings-clause-stopped
returns-in_err-sendings-clause-stopped g c = λ lines named. absurd (no_stopped c.from_residual.result c.from_residual.ensures.1 lines named)

pub returns-in_err-sendings-clause-thread : goal.returns-in_err-sendings-clause-thread
returns-in_err-sendings-clause-thread g c = λ lines named. absurd (no_thread c.from_residual.result c.from_residual.ensures.1 lines named)

pub returns-in_err-sendings-clause-prefix : goal.returns-in_err-sendings-clause-prefix
returns-in_err-sendings-clause-prefix g c = nothing_written c.from_residual.result _ _

pub returns-in_err-sendings-clause-faults : goal.returns-in_err-sendings-clause-faults
returns-in_err-sendings-clause-faults g c = if_fault c.from_residual.result Memory IsOfRelaying c.from_residual.ensures.1 tt

pub returns-in_err-receivers-clause-printed : goal.returns-in_err-receivers-clause-printed
returns-in_err-receivers-clause-printed g c = no_value c.from_residual-in_err-receivers.result Memory c.from_residual-in_err-receivers.ensures.1 _

pub returns-in_err-receivers-clause-bad_plan : goal.returns-in_err-receivers-clause-bad_plan
returns-in_err-receivers-clause-bad_plan g c = λ bad named. absurd (no_bad c.from_residual-in_err-receivers.result c.from_residual-in_err-receivers.ensures.1 bad named)

pub returns-in_err-receivers-clause-bad_plan_prints_nothing : goal.returns-in_err-receivers-clause-bad_plan_prints_nothing
returns-in_err-receivers-clause-bad_plan_prints_nothing g c = λ bad named. Keeps-refl _

pub returns-in_err-receivers-clause-stopped : goal.returns-in_err-receivers-clause-stopped
returns-in_err-receivers-clause-stopped g c = λ lines named. absurd (no_stopped c.from_residual-in_err-receivers.result c.from_residual-in_err-receivers.ensures.1 lines named)

pub returns-in_err-receivers-clause-thread : goal.returns-in_err-receivers-clause-thread
returns-in_err-receivers-clause-thread g c = λ lines named. absurd (no_thread c.from_residual-in_err-receivers.result c.from_residual-in_err-receivers.ensures.1 lines named)

pub returns-in_err-receivers-clause-prefix : goal.returns-in_err-receivers-clause-prefix
returns-in_err-receivers-clause-prefix g c = nothing_written c.from_residual-in_err-receivers.result _ _

pub returns-in_err-receivers-clause-faults : goal.returns-in_err-receivers-clause-faults
returns-in_err-receivers-clause-faults g c = if_fault c.from_residual-in_err-receivers.result Memory IsOfRelaying c.from_residual-in_err-receivers.ensures.1 tt

pub returns-in_err-sealer_of-clause-printed : goal.returns-in_err-sealer_of-clause-printed
returns-in_err-sealer_of-clause-printed g c = no_value c.from_residual-in_err-sealer_of.result Memory c.from_residual-in_err-sealer_of.ensures.1 _

pub returns-in_err-sealer_of-clause-bad_plan : goal.returns-in_err-sealer_of-clause-bad_plan
returns-in_err-sealer_of-clause-bad_plan g c = λ bad named. absurd (no_bad c.from_residual-in_err-sealer_of.result c.from_residual-in_err-sealer_of.ensures.1 bad named)

pub returns-in_err-sealer_of-clause-bad_plan_prints_nothing : goal.returns-in_err-sealer_of-clause-bad_plan_prints_nothing
returns-in_err-sealer_of-clause-bad_plan_prints_nothing g c = λ bad named. Keeps-refl _

pub returns-in_err-sealer_of-clause-stopped : goal.returns-in_err-sealer_of-clause-stopped
returns-in_err-sealer_of-clause-stopped g c = λ lines named. absurd (no_stopped c.from_residual-in_err-sealer_of.result c.from_residual-in_err-sealer_of.ensures.1 lines named)

pub returns-in_err-sealer_of-clause-thread : goal.returns-in_err-sealer_of-clause-thread
returns-in_err-sealer_of-clause-thread g c = λ lines named. absurd (no_thread c.from_residual-in_err-sealer_of.result c.from_residual-in_err-sealer_of.ensures.1 lines named)

pub returns-in_err-sealer_of-clause-prefix : goal.returns-in_err-sealer_of-clause-prefix
returns-in_err-sealer_of-clause-prefix g c = nothing_written c.from_residual-in_err-sealer_of.result _ _

pub returns-in_err-sealer_of-clause-faults : goal.returns-in_err-sealer_of-clause-faults
returns-in_err-sealer_of-clause-faults g c = if_fault c.from_residual-in_err-sealer_of.result Memory IsOfRelaying c.from_residual-in_err-sealer_of.ensures.1 tt

pub returns-in_err-new-clause-printed : goal.returns-in_err-new-clause-printed
returns-in_err-new-clause-printed g c = no_value c.from_residual-in_err-new.result Memory c.from_residual-in_err-new.ensures.1 _

pub returns-in_err-new-clause-bad_plan : goal.returns-in_err-new-clause-bad_plan
returns-in_err-new-clause-bad_plan g c = λ bad named. absurd (no_bad c.from_residual-in_err-new.result c.from_residual-in_err-new.ensures.1 bad named)

pub returns-in_err-new-clause-bad_plan_prints_nothing : goal.returns-in_err-new-clause-bad_plan_prints_nothing
returns-in_err-new-clause-bad_plan_prints_nothing g c = λ bad named. Keeps-refl _

pub returns-in_err-new-clause-stopped : goal.returns-in_err-new-clause-stopped
returns-in_err-new-clause-stopped g c = λ lines named. absurd (no_stopped c.from_residual-in_err-new.result c.from_residual-in_err-new.ensures.1 lines named)

pub returns-in_err-new-clause-thread : goal.returns-in_err-new-clause-thread
returns-in_err-new-clause-thread g c = λ lines named. absurd (no_thread c.from_residual-in_err-new.result c.from_residual-in_err-new.ensures.1 lines named)

pub returns-in_err-new-clause-prefix : goal.returns-in_err-new-clause-prefix
returns-in_err-new-clause-prefix g c = nothing_written c.from_residual-in_err-new.result _ _

pub returns-in_err-new-clause-faults : goal.returns-in_err-new-clause-faults
returns-in_err-new-clause-faults g c = if_fault c.from_residual-in_err-new.result Memory IsOfRelaying c.from_residual-in_err-new.ensures.1 tt

pub returns-in_err-push_parsed-clause-printed : goal.returns-in_err-push_parsed-clause-printed
returns-in_err-push_parsed-clause-printed g c = no_value c.from_residual-in_err-push_parsed.result Memory (same_fault c.from_residual-in_err-push_parsed.result c.in_err-push_parsed.field-0.0 Memory c.in_err-push_parsed.ensures.faults c.from_residual-in_err-push_parsed.ensures.1) _

pub returns-in_err-push_parsed-clause-bad_plan : goal.returns-in_err-push_parsed-clause-bad_plan
returns-in_err-push_parsed-clause-bad_plan g c = λ bad named. absurd (no_bad c.from_residual-in_err-push_parsed.result (same_fault c.from_residual-in_err-push_parsed.result c.in_err-push_parsed.field-0.0 Memory c.in_err-push_parsed.ensures.faults c.from_residual-in_err-push_parsed.ensures.1) bad named)

pub returns-in_err-push_parsed-clause-bad_plan_prints_nothing : goal.returns-in_err-push_parsed-clause-bad_plan_prints_nothing
returns-in_err-push_parsed-clause-bad_plan_prints_nothing g c = λ bad named. Keeps-refl _

pub returns-in_err-push_parsed-clause-stopped : goal.returns-in_err-push_parsed-clause-stopped
returns-in_err-push_parsed-clause-stopped g c = λ lines named. absurd (no_stopped c.from_residual-in_err-push_parsed.result (same_fault c.from_residual-in_err-push_parsed.result c.in_err-push_parsed.field-0.0 Memory c.in_err-push_parsed.ensures.faults c.from_residual-in_err-push_parsed.ensures.1) lines named)

pub returns-in_err-push_parsed-clause-thread : goal.returns-in_err-push_parsed-clause-thread
returns-in_err-push_parsed-clause-thread g c = λ lines named. absurd (no_thread c.from_residual-in_err-push_parsed.result (same_fault c.from_residual-in_err-push_parsed.result c.in_err-push_parsed.field-0.0 Memory c.in_err-push_parsed.ensures.faults c.from_residual-in_err-push_parsed.ensures.1) lines named)

pub returns-in_err-push_parsed-clause-prefix : goal.returns-in_err-push_parsed-clause-prefix
returns-in_err-push_parsed-clause-prefix g c = nothing_written c.from_residual-in_err-push_parsed.result _ _

pub returns-in_err-push_parsed-clause-faults : goal.returns-in_err-push_parsed-clause-faults
returns-in_err-push_parsed-clause-faults g c = if_fault c.from_residual-in_err-push_parsed.result Memory IsOfRelaying (same_fault c.from_residual-in_err-push_parsed.result c.in_err-push_parsed.field-0.0 Memory c.in_err-push_parsed.ensures.faults c.from_residual-in_err-push_parsed.ensures.1) tt
