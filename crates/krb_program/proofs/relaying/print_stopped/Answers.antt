-- What is reported and printed, by why the relay stopped.
use Rattle.std.proofs.Common.{◌≡◌, length, inl, inr, sym, ap, subst, ◌∙◌}
use Rattle.std.proofs.KnownBytes.{Keeps-refl}
use Rattle.std.proofs.lemmas.Bool.{true≢false}
use Rattle.krb_relay.specs.declared.cause.Cause.TheVariants.{BadPlan}
use Rattle.krb_commands.specs.declared.fault.Fault.TheVariants as fault
use Rattle.krb_commands.specs.Fault.{bad_plan, IsOfPrinting}
use Rattle.krb_program.specs.RelayFault.{of_relay, IsOfRelaying}
use Rattle.krb_program.proofs.FaultLemmas.{printing_relaying}
use Rattle.krb_commands.proofs.OutputLemmas.{AppendsPrefix-whole, prefix_by_part}
use Rattle.krb_program.proofs.StoppedLemmas.{cause_relaying, bad_cause, stopped_lines, lost_lines}
use Rattle.krb_program.proofs.relaying.print_stopped.Goals as goal
use Rattle.krb_program.proofs.relaying.print_stopped.Goals.{in-BadPlan, in_default}

-- ---- a bad plan

pub returns-then-matches-clause-fault : goal.returns-then-matches-clause-fault
returns-then-matches-clause-fault g c =
    let stopped = c.args.stopped.now in
    elim c.match-matches.branch [ in-BadPlan w ↦ inl (c.bad_plan.ensures ∙ ap (λ x. of_relay x stopped.lane (length stopped.log.entries)) (sym w.in-BadPlan.is)) | in_default w ↦ absurd (true≢false (sym c.if-matches.true ∙ w.matches-is)) ]

pub returns-then-matches-clause-faults : goal.returns-then-matches-clause-faults
returns-then-matches-clause-faults g c = subst IsOfRelaying (sym c.bad_plan.ensures) tt

pub returns-then-matches-clause-bad_plan : goal.returns-then-matches-clause-bad_plan
returns-then-matches-clause-bad_plan g c = λ bad named. Keeps-refl _

pub returns-then-matches-clause-stopped : goal.returns-then-matches-clause-stopped
returns-then-matches-clause-stopped g c = λ lines named.
    absurd (let e : fault.BadInput (bad_plan c.args.stopped.now.lane) ≡ fault.Stopped lines = sym c.bad_plan.ensures ∙ named in cc)

pub returns-then-matches-clause-thread : goal.returns-then-matches-clause-thread
returns-then-matches-clause-thread g c = λ lines named.
    absurd (let e : fault.BadInput (bad_plan c.args.stopped.now.lane) ≡ fault.Thread lines = sym c.bad_plan.ensures ∙ named in cc)

pub returns-then-matches-clause-prefix : goal.returns-then-matches-clause-prefix
returns-then-matches-clause-prefix g c = inl (Keeps-refl _)

-- ---- another cause, after its lines

pub returns-in-Ok-clause-fault : goal.returns-in-Ok-clause-fault
returns-in-Ok-clause-fault g c =
    let stopped = c.args.stopped.now in
    inl (c.fault_of.ensures ∙ ap (of_relay stopped.cause stopped.lane) c.in-Ok.ensures.count)

pub returns-in-Ok-clause-faults : goal.returns-in-Ok-clause-faults
returns-in-Ok-clause-faults g c =
    let stopped = c.args.stopped.now in
    subst IsOfRelaying (sym c.fault_of.ensures) (cause_relaying stopped.lane c.in-Ok.lines stopped.cause)

pub returns-in-Ok-clause-bad_plan : goal.returns-in-Ok-clause-bad_plan
returns-in-Ok-clause-bad_plan g c = λ bad named.
    let stopped = c.args.stopped.now in
    let is : stopped.cause ≡ BadPlan = bad_cause stopped.lane c.in-Ok.lines stopped.cause bad (sym c.fault_of.ensures ∙ named) in
    elim c.match-matches.branch [ in-BadPlan w ↦ absurd (true≢false (sym w.matches-is ∙ c.if-matches.false)) | in_default w ↦ absurd (w.in_default.not-BadPlan is) ]

pub returns-in-Ok-clause-stopped : goal.returns-in-Ok-clause-stopped
returns-in-Ok-clause-stopped g c = λ lines named.
    let stopped = c.args.stopped.now in
    (stopped_lines stopped.lane c.in-Ok.lines stopped.cause lines (sym c.fault_of.ensures ∙ named) ∙ c.in-Ok.ensures.count, c.in-Ok.ensures.printed)

pub returns-in-Ok-clause-thread : goal.returns-in-Ok-clause-thread
returns-in-Ok-clause-thread g c = λ lines named.
    let stopped = c.args.stopped.now in
    (lost_lines stopped.lane c.in-Ok.lines stopped.cause lines (sym c.fault_of.ensures ∙ named) ∙ c.in-Ok.ensures.count, c.in-Ok.ensures.printed)

pub returns-in-Ok-clause-prefix : goal.returns-in-Ok-clause-prefix
returns-in-Ok-clause-prefix g c = inr (AppendsPrefix-whole _ _ _ c.in-Ok.ensures.printed)

-- ---- a fault of the printing

pub returns-in-Err-clause-fault : goal.returns-in-Err-clause-fault
returns-in-Err-clause-fault g c = inr (c.in-Err.ensures.faults, c.in-Err.ensures.part)

pub returns-in-Err-clause-faults : goal.returns-in-Err-clause-faults
returns-in-Err-clause-faults g c = printing_relaying c.in-Err.fault c.in-Err.ensures.faults

pub returns-in-Err-clause-bad_plan : goal.returns-in-Err-clause-bad_plan
returns-in-Err-clause-bad_plan g c = λ bad named. absurd (subst IsOfPrinting named c.in-Err.ensures.faults)

pub returns-in-Err-clause-stopped : goal.returns-in-Err-clause-stopped
returns-in-Err-clause-stopped g c = λ lines named. absurd (subst IsOfPrinting named c.in-Err.ensures.faults)

pub returns-in-Err-clause-thread : goal.returns-in-Err-clause-thread
returns-in-Err-clause-thread g c = λ lines named. absurd (subst IsOfPrinting named c.in-Err.ensures.faults)

pub returns-in-Err-clause-prefix : goal.returns-in-Err-clause-prefix
returns-in-Err-clause-prefix g c = inr (prefix_by_part _ _ _ c.in-Err.ensures.part)
