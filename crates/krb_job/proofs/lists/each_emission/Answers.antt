use Rattle.toml.specs.View.{view, items_view}
use Rattle.krb_job.specs.Emission.{emission_of}
use Rattle.krb_job.specs.Lists.{each}
use Rattle.std.specs.Prelude.{ok_or}
use Rattle.krb_job.proofs.ListLemmas.{joined_none, joined_next, joined_stop, joined_all}
use Rattle.krb_job.proofs.FailLemmas.{err_within, err_memory}
use Rattle.krb_job.proofs.lists.each_emission.Goals as goal

pub loop-item-init : goal.loop-item-init
loop-item-init c = joined_none emission_of c.args.items.now c.new-plan.result.items c.new-plan.ensures.items

pub returns-in_err-emission : goal.returns-in_err-emission
returns-in_err-emission c =
    err_within (λ v. v.items) c.from_residual.result c.in_err-emission.field-0.0 (emission_of (view c.item-item.result)) (each emission_of (items_view c.args.items.now)) c.args.place c.from_residual.ensures
    (λ none. joined_stop emission_of c.args.items.now c.loop-item.item-index c.item-item.result c.loop-item.plan.items c.loop-item.invariant c.loop-item-test.true c.item-item.is none) c.in_err-emission.ensures

pub returns-in_err-push : goal.returns-in_err-push
returns-in_err-push c = err_memory (λ v. v.items) c.from_residual-in_err-push.result (ok_or (each emission_of (items_view c.args.items.now)) c.args.place) c.from_residual-in_err-push.ensures

pub loop-item-preserved : goal.loop-item-preserved
loop-item-preserved c =
    joined_next emission_of c.args.items.now c.loop-item.item-index c.item-item.result c.args.place c.loop-item.plan.items c.push.new.self.items c.in_ok-emission.emission c.loop-item.invariant c.loop-item-test.true c.item-item.is c.in_ok-emission.ensures c.in_ok-push.ensures.items

pub returns : goal.returns
returns c = joined_all emission_of c.args.items.now c.loop-item.item-index c.loop-item.plan.items c.args.place c.loop-item.invariant c.loop-item-test.false
