use Rattle.std.proofs.Common.{IsSome, option_map, ap, ◌∙◌}
use Rattle.toml.specs.View.{table_view}
use Rattle.krb_job.specs.declared.place.Place.TheVariants.{Seed, At, Now, Texts}
use Rattle.krb_job.specs.Values.{seed_of}
use Rattle.krb_job.specs.Keys.{needed, some}
use Rattle.krb_job.proofs.SenderLimits.{moments-there, texts-fit, moments-beside}
use Rattle.krb_job.specs.SenderKeys.{sender_with}
use Rattle.krb_job.specs.SenderView.{protection_view, parties_view}
use Rattle.krb_job.proofs.FailLemmas.{err_holds}
use Rattle.krb_job.proofs.TrafficLemmas.{err_traffic, traffic_passes, seed_fails, ats_fails, nows_fails, texts_fails, batch_fails, plan_fails, frames_fails}
use Rattle.krb_job.proofs.sender.read_traffic.Goals as goal

pub invariant_of-result-clause-texts_short : goal.invariant_of-result-clause-texts_short
invariant_of-result-clause-texts_short c = texts-fit c.seals-seals.result Texts (table_view c.args.table.now) c.in_ok-texts.field-0.items c.in_ok-texts.ensures

pub invariant_of-result-clause-has_nows : goal.invariant_of-result-clause-has_nows
invariant_of-result-clause-has_nows c = moments-there Now (table_view c.args.table.now) c.in_ok-moments.field-0.items c.in_ok-moments.ensures

pub invariant_of-result-clause-has_ats : goal.invariant_of-result-clause-has_ats
invariant_of-result-clause-has_ats c =
    let members = table_view c.args.table.now in
    moments-beside c.seals-seals.result Seed At (needed Seed (some seed_of) members) members c.in_ok-seed.field-0 c.in_ok-moments_if.field-0.items c.in_ok-seed.ensures.value c.in_ok-moments_if.ensures

pub returns-in_err-seed-clause-value : goal.returns-in_err-seed-clause-value
returns-in_err-seed-clause-value c =
    let ms = table_view c.args.table.now in
    err_traffic (protection_view c.args.protection) (parties_view c.args.parties) c.args.command ms c.from_residual.result c.in_err-seed.field-0.0 c.from_residual.ensures
    (seed_fails c.args.command ms c.seals-seals.result c.seals-seals.ensures c.in_err-seed.field-0.0 c.in_err-seed.ensures.value)

pub returns-in_err-seed-clause-seed : goal.returns-in_err-seed-clause-seed
returns-in_err-seed-clause-seed c = λ sealing. err_holds (λ sender. IsSome sender.seed) c.from_residual.result c.from_residual.ensures.0

pub returns-in_err-moments_if-clause-value : goal.returns-in_err-moments_if-clause-value
returns-in_err-moments_if-clause-value c =
    let ms = table_view c.args.table.now in
    err_traffic (protection_view c.args.protection) (parties_view c.args.parties) c.args.command ms c.from_residual-in_err-moments_if.result c.in_err-moments_if.field-0.0 c.from_residual-in_err-moments_if.ensures
    (ats_fails c.args.command ms c.seals-seals.result c.seals-seals.ensures c.in_ok-seed.field-0 c.in_err-moments_if.field-0.0 c.in_ok-seed.ensures.value c.in_err-moments_if.ensures)

pub returns-in_err-moments_if-clause-seed : goal.returns-in_err-moments_if-clause-seed
returns-in_err-moments_if-clause-seed c = λ sealing. err_holds (λ sender. IsSome sender.seed) c.from_residual-in_err-moments_if.result c.from_residual-in_err-moments_if.ensures.0

pub returns-in_err-moments-clause-value : goal.returns-in_err-moments-clause-value
returns-in_err-moments-clause-value c =
    let ms = table_view c.args.table.now in
    err_traffic (protection_view c.args.protection) (parties_view c.args.parties) c.args.command ms c.from_residual-in_err-moments.result c.in_err-moments.field-0.0 c.from_residual-in_err-moments.ensures
    (nows_fails c.args.command ms c.seals-seals.result c.seals-seals.ensures c.in_ok-seed.field-0 c.in_ok-moments_if.field-0.items c.in_err-moments.field-0.0 c.in_ok-seed.ensures.value c.in_ok-moments_if.ensures c.in_err-moments.ensures)

pub returns-in_err-moments-clause-seed : goal.returns-in_err-moments-clause-seed
returns-in_err-moments-clause-seed c = λ sealing. err_holds (λ sender. IsSome sender.seed) c.from_residual-in_err-moments.result c.from_residual-in_err-moments.ensures.0

pub returns-in_err-texts-clause-value : goal.returns-in_err-texts-clause-value
returns-in_err-texts-clause-value c =
    let ms = table_view c.args.table.now in
    err_traffic (protection_view c.args.protection) (parties_view c.args.parties) c.args.command ms c.from_residual-in_err-texts.result c.in_err-texts.field-0.0 c.from_residual-in_err-texts.ensures
    (texts_fails c.args.command ms c.seals-seals.result c.seals-seals.ensures c.in_ok-seed.field-0 c.in_ok-moments_if.field-0.items c.in_ok-moments.field-0.items c.in_err-texts.field-0.0 c.in_ok-seed.ensures.value c.in_ok-moments_if.ensures c.in_ok-moments.ensures c.in_err-texts.ensures)

pub returns-in_err-texts-clause-seed : goal.returns-in_err-texts-clause-seed
returns-in_err-texts-clause-seed c = λ sealing. err_holds (λ sender. IsSome sender.seed) c.from_residual-in_err-texts.result c.from_residual-in_err-texts.ensures.0

pub returns-in_err-batch-clause-value : goal.returns-in_err-batch-clause-value
returns-in_err-batch-clause-value c =
    let ms = table_view c.args.table.now in
    err_traffic (protection_view c.args.protection) (parties_view c.args.parties) c.args.command ms c.from_residual-in_err-batch.result c.in_err-batch.field-0.0 c.from_residual-in_err-batch.ensures
    (batch_fails c.args.command ms c.seals-seals.result c.seals-seals.ensures c.in_ok-seed.field-0 c.in_ok-moments_if.field-0.items c.in_ok-moments.field-0.items c.in_ok-texts.field-0.items c.in_err-batch.field-0.0 c.in_ok-seed.ensures.value c.in_ok-moments_if.ensures c.in_ok-moments.ensures c.in_ok-texts.ensures c.in_err-batch.ensures.value)

pub returns-in_err-batch-clause-seed : goal.returns-in_err-batch-clause-seed
returns-in_err-batch-clause-seed c = λ sealing. err_holds (λ sender. IsSome sender.seed) c.from_residual-in_err-batch.result c.from_residual-in_err-batch.ensures.0

pub returns-in_err-plan-clause-value : goal.returns-in_err-plan-clause-value
returns-in_err-plan-clause-value c =
    let ms = table_view c.args.table.now in
    err_traffic (protection_view c.args.protection) (parties_view c.args.parties) c.args.command ms c.from_residual-in_err-plan.result c.in_err-plan.field-0.0 c.from_residual-in_err-plan.ensures
    (plan_fails c.args.command ms c.seals-seals.result c.seals-seals.ensures c.in_ok-seed.field-0 c.in_ok-moments_if.field-0.items c.in_ok-moments.field-0.items c.in_ok-texts.field-0.items c.in_ok-batch.field-0 c.in_err-plan.field-0.0 c.in_ok-seed.ensures.value c.in_ok-moments_if.ensures c.in_ok-moments.ensures c.in_ok-texts.ensures c.in_ok-batch.ensures.value c.in_err-plan.ensures)

pub returns-in_err-plan-clause-seed : goal.returns-in_err-plan-clause-seed
returns-in_err-plan-clause-seed c = λ sealing. err_holds (λ sender. IsSome sender.seed) c.from_residual-in_err-plan.result c.from_residual-in_err-plan.ensures.0

pub returns-in_err-frames-clause-value : goal.returns-in_err-frames-clause-value
returns-in_err-frames-clause-value c =
    let ms = table_view c.args.table.now in
    err_traffic (protection_view c.args.protection) (parties_view c.args.parties) c.args.command ms c.from_residual-in_err-frames.result c.in_err-frames.field-0.0 c.from_residual-in_err-frames.ensures
    (frames_fails c.args.command ms c.seals-seals.result c.seals-seals.ensures c.opens.result c.opens.ensures c.in_ok-seed.field-0 c.in_ok-moments_if.field-0.items c.in_ok-moments.field-0.items c.in_ok-texts.field-0.items c.in_ok-batch.field-0 (option_map (λ v. v.items) c.in_ok-plan.field-0) c.in_err-frames.field-0.0 c.in_ok-seed.ensures.value c.in_ok-moments_if.ensures c.in_ok-moments.ensures c.in_ok-texts.ensures c.in_ok-batch.ensures.value c.in_ok-plan.ensures c.in_err-frames.ensures)

pub returns-in_err-frames-clause-seed : goal.returns-in_err-frames-clause-seed
returns-in_err-frames-clause-seed c = λ sealing. err_holds (λ sender. IsSome sender.seed) c.from_residual-in_err-frames.result c.from_residual-in_err-frames.ensures.0

pub returns-clause-value : goal.returns-clause-value
returns-clause-value c =
    ap (sender_with (protection_view c.args.protection) (parties_view c.args.parties))
    (traffic_passes c.args.command (table_view c.args.table.now) c.seals-seals.result c.seals-seals.ensures c.opens.result c.opens.ensures
    c.in_ok-seed.field-0 c.in_ok-moments_if.field-0.items c.in_ok-moments.field-0.items c.in_ok-texts.field-0.items c.in_ok-batch.field-0 (option_map (λ v. v.items) c.in_ok-plan.field-0) c.in_ok-frames.field-0.items
    c.in_ok-seed.ensures.value c.in_ok-moments_if.ensures c.in_ok-moments.ensures c.in_ok-texts.ensures c.in_ok-batch.ensures.value c.in_ok-plan.ensures c.in_ok-frames.ensures)

pub returns-clause-seed : goal.returns-clause-seed
returns-clause-seed c = λ sealing. c.in_ok-seed.ensures.there (c.seals-seals.ensures ∙ sealing)
