-- What is printed, by what the relay answers.
use Rattle.std.proofs.Common.{◌∙◌, sym}
use Rattle.krb_peers.specs.Ends.{lanes_of}
use Rattle.krb_commands.proofs.FaultLemmas.{if_fault, no_value}
use Rattle.krb_program.proofs.FaultLemmas.{all_relaying, printing_relaying, printing_named}
use Rattle.krb_commands.specs.declared.fault.Fault.TheVariants as fault
use Rattle.krb_commands.specs.Fault.{IsOfPrinting}
use Rattle.krb_program.specs.RelayFault.{IsOfRelaying}
use Rattle.krb_program.proofs.StoppedLemmas.{live_cause, names_bad_plan}
use Rattle.krb_program.proofs.RelayedLemmas.{entries_front, relayed_by, front_by, sents_many, stopped_front}
use Rattle.krb_commands.proofs.ShowLemmas.{on_err}
use Rattle.krb_program.proofs.relaying.relay_job.Goals as goal

pub print_stopped-requires : goal.print_stopped-requires
print_stopped-requires g c =
    let stopped = c.in-Err.stopped in
    live_cause g.S.Sealer.state c.args.sendings.items c.args.receivings.items c.requires.live stopped.log stopped.lane stopped.cause c.in-Err.ensures.stopped

pub returns-in-Err-clause-bad_plan : goal.returns-in-Err-clause-bad_plan
returns-in-Err-clause-bad_plan g c = λ bad named.
    let lanes = lanes_of g.S.Sealer.state c.args.sendings.items c.args.receivings.items in
    let stopped = c.in-Err.stopped in
    names_bad_plan lanes stopped.log stopped.lane stopped.cause c.print_stopped.result bad c.in-Err.ensures.stopped _ _ c.print_stopped.ensures.fault (let e = named in cc)

pub returns-in_err-print_log-clause-prefix : goal.returns-in_err-print_log-clause-prefix
returns-in_err-print_log-clause-prefix g c =
    let lanes = lanes_of g.S.Sealer.state c.args.sendings.items c.args.receivings.items in
    let old = g.W.Write.contents c.args.writer.now in
    on_err _ c.from_residual.result (entries_front lanes c.in-Ok.report.log old old _ c.in-Ok.report.sent.items c.in-Ok.ensures.whole c.in_err-print_log.ensures.part)

pub print_ends-requires : goal.print_ends-requires
print_ends-requires g c =
    rw c.as_slice.ensures.value
    (sents_many g.S.Sealer.state c.args.sendings.items c.args.receivings.items c.in-Ok.report.sent.items c.requires.same (c.in-Ok.ensures.whole).sealed ∙ sym c.in-Ok.ensures.lanes)

pub returns-clause-printed : goal.returns-clause-printed
returns-clause-printed g c =
    let lanes = lanes_of g.S.Sealer.state c.args.sendings.items c.args.receivings.items in
    let old = g.W.Write.contents c.args.writer.now in
    let whole = c.in-Ok.ensures.whole in
    relayed_by lanes c.in-Ok.report.log old _ _ c.in-Ok.report.sent.items whole whole.sealed c.in_ok-print_log.ensures.printed
    c.print_ends.result (rw c.as_slice.ensures.value at c.print_ends.ensures.printed) (rw c.as_slice.ensures.value at c.print_ends.ensures.status)

pub returns-clause-prefix : goal.returns-clause-prefix
returns-clause-prefix g c =
    let lanes = lanes_of g.S.Sealer.state c.args.sendings.items c.args.receivings.items in
    let old = g.W.Write.contents c.args.writer.now in
    let whole = c.in-Ok.ensures.whole in
    front_by lanes c.in-Ok.report.log old _ _ c.in-Ok.report.sent.items whole whole.sealed c.in_ok-print_log.ensures.printed
    c.print_ends.result (rw c.as_slice.ensures.value at c.print_ends.ensures.part)

pub returns-in-Err-clause-printed : goal.returns-in-Err-clause-printed
returns-in-Err-clause-printed g c = tt

pub returns-in-Err-clause-bad_plan_prints_nothing : goal.returns-in-Err-clause-bad_plan_prints_nothing
returns-in-Err-clause-bad_plan_prints_nothing g c = λ bad named. c.print_stopped.ensures.bad_plan bad (let e = named in cc)

pub returns-in-Err-clause-stopped : goal.returns-in-Err-clause-stopped
returns-in-Err-clause-stopped g c = λ lines named.
    let p = c.print_stopped.ensures.stopped lines (let e = named in cc) in
    (c.in-Err.stopped.log, (c.in-Err.ensures.stopped).relayed, p.0, p.1)

pub returns-in-Err-clause-thread : goal.returns-in-Err-clause-thread
returns-in-Err-clause-thread g c = λ lines named.
    let p = c.print_stopped.ensures.thread lines (let e = named in cc) in
    (c.in-Err.stopped.log, (c.in-Err.ensures.stopped).relayed, p.0, p.1)

pub returns-in-Err-clause-prefix : goal.returns-in-Err-clause-prefix
returns-in-Err-clause-prefix g c =
    let lanes = lanes_of g.S.Sealer.state c.args.sendings.items c.args.receivings.items in
    stopped_front lanes c.in-Err.stopped.log _ _ (c.in-Err.ensures.stopped).relayed c.print_stopped.ensures.prefix

pub returns-in-Err-clause-faults : goal.returns-in-Err-clause-faults
returns-in-Err-clause-faults g c = c.print_stopped.ensures.faults

pub returns-in_err-print_log-clause-printed : goal.returns-in_err-print_log-clause-printed
returns-in_err-print_log-clause-printed g c = no_value c.from_residual.result c.in_err-print_log.field-0.0 c.from_residual.ensures.1 _

pub returns-in_err-print_log-clause-bad_plan : goal.returns-in_err-print_log-clause-bad_plan
returns-in_err-print_log-clause-bad_plan g c = λ bad named.
    absurd (printing_named c.from_residual.result (if_fault c.from_residual.result c.in_err-print_log.field-0.0 IsOfPrinting c.from_residual.ensures.1 c.in_err-print_log.ensures.faults) (fault.BadInput bad) named)

pub returns-in_err-print_log-clause-bad_plan_prints_nothing : goal.returns-in_err-print_log-clause-bad_plan_prints_nothing
returns-in_err-print_log-clause-bad_plan_prints_nothing g c = λ bad named.
    absurd (printing_named c.from_residual.result (if_fault c.from_residual.result c.in_err-print_log.field-0.0 IsOfPrinting c.from_residual.ensures.1 c.in_err-print_log.ensures.faults) (fault.BadInput bad) named)

pub returns-in_err-print_log-clause-stopped : goal.returns-in_err-print_log-clause-stopped
returns-in_err-print_log-clause-stopped g c = λ lines named.
    absurd (printing_named c.from_residual.result (if_fault c.from_residual.result c.in_err-print_log.field-0.0 IsOfPrinting c.from_residual.ensures.1 c.in_err-print_log.ensures.faults) (fault.Stopped lines) named)

pub returns-in_err-print_log-clause-thread : goal.returns-in_err-print_log-clause-thread
returns-in_err-print_log-clause-thread g c = λ lines named.
    absurd (printing_named c.from_residual.result (if_fault c.from_residual.result c.in_err-print_log.field-0.0 IsOfPrinting c.from_residual.ensures.1 c.in_err-print_log.ensures.faults) (fault.Thread lines) named)

pub returns-in_err-print_log-clause-faults : goal.returns-in_err-print_log-clause-faults
returns-in_err-print_log-clause-faults g c = if_fault c.from_residual.result c.in_err-print_log.field-0.0 IsOfRelaying c.from_residual.ensures.1 (printing_relaying c.in_err-print_log.field-0.0 c.in_err-print_log.ensures.faults)

pub returns-clause-bad_plan : goal.returns-clause-bad_plan
returns-clause-bad_plan g c = λ bad named.
    absurd (printing_named c.print_ends.result c.print_ends.ensures.faults (fault.BadInput bad) named)

pub returns-clause-bad_plan_prints_nothing : goal.returns-clause-bad_plan_prints_nothing
returns-clause-bad_plan_prints_nothing g c = λ bad named.
    absurd (printing_named c.print_ends.result c.print_ends.ensures.faults (fault.BadInput bad) named)

pub returns-clause-stopped : goal.returns-clause-stopped
returns-clause-stopped g c = λ lines named.
    absurd (printing_named c.print_ends.result c.print_ends.ensures.faults (fault.Stopped lines) named)

pub returns-clause-thread : goal.returns-clause-thread
returns-clause-thread g c = λ lines named.
    absurd (printing_named c.print_ends.result c.print_ends.ensures.faults (fault.Thread lines) named)

pub returns-clause-faults : goal.returns-clause-faults
returns-clause-faults g c = all_relaying c.print_ends.result c.print_ends.ensures.faults
