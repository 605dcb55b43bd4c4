use Rattle.std.proofs.Common.{sym}
use Rattle.toml.specs.View.{view, items_view}
use Rattle.krb_job.specs.Lists.{each, moment_of}
use Rattle.krb_job.specs.declared.place.KeyError.TheVariants.{Bad}
use Rattle.std.specs.Prelude.{ok_or}
use Rattle.krb_job.proofs.ListLemmas.{joined_none, joined_next, joined_stop, joined_all}
use Rattle.krb_job.proofs.FailLemmas.{err_within, err_memory, refused}
use Rattle.krb_job.proofs.lists.each_moment.Goals as goal

pub loop-item-init : goal.loop-item-init
loop-item-init c = joined_none moment_of c.args.items.now c.new-moments.result.items c.new-moments.ensures.items

pub returns-in_err-moment : goal.returns-in_err-moment
returns-in_err-moment c =
    let failed = refused (moment_of (view c.item-item.result)) c.in_err-moment.field-0.0 c.args.place (rw c.read_moment.ensures at c.in_err-moment.ensures.value) in
    err_within (λ v. v.items) c.from_residual.result c.in_err-moment.field-0.0 (moment_of (view c.item-item.result)) (each moment_of (items_view c.args.items.now)) c.args.place c.from_residual.ensures
    (λ none. joined_stop moment_of c.args.items.now c.loop-item.item-index c.item-item.result c.loop-item.moments.items c.loop-item.invariant c.loop-item-test.true c.item-item.is none) failed

pub returns-in_err-push : goal.returns-in_err-push
returns-in_err-push c = err_memory (λ v. v.items) c.from_residual-in_err-push.result (ok_or (each moment_of (items_view c.args.items.now)) c.args.place) c.from_residual-in_err-push.ensures

pub loop-item-preserved : goal.loop-item-preserved
loop-item-preserved c =
    joined_next moment_of c.args.items.now c.loop-item.item-index c.item-item.result (Bad c.args.place) c.loop-item.moments.items c.push.new.self.items c.in_ok-moment.moment c.loop-item.invariant c.loop-item-test.true c.item-item.is (sym (rw c.read_moment.ensures at c.in_ok-moment.ensures.value)) c.in_ok-push.ensures.items

pub returns : goal.returns
returns c = joined_all moment_of c.args.items.now c.loop-item.item-index c.loop-item.moments.items c.args.place c.loop-item.invariant c.loop-item-test.false
