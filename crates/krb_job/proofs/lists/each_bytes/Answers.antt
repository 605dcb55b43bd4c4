use Rattle.toml.specs.View.{view, items_view}
use Rattle.krb_job.specs.Values.{bytes_of}
use Rattle.krb_job.specs.Lists.{each}
use Rattle.std.specs.Prelude.{ok_or}
use Rattle.krb_job.proofs.ListLemmas.{joined_none, joined_next, joined_stop, joined_all}
use Rattle.krb_job.proofs.FailLemmas.{err_within, err_memory}
use Rattle.krb_job.proofs.lists.each_bytes.Goals as goal

pub loop-item-init : goal.loop-item-init
loop-item-init c = joined_none (bytes_of 0 c.args.high) c.args.items.now c.new-texts.result.items c.new-texts.ensures.items

pub returns-in_err-text : goal.returns-in_err-text
returns-in_err-text c =
    err_within (λ v. v.items) c.from_residual.result c.in_err-text.field-0.0 ((bytes_of 0 c.args.high) (view c.item-item.result)) (each (bytes_of 0 c.args.high) (items_view c.args.items.now)) c.args.place c.from_residual.ensures
    (λ none. joined_stop (bytes_of 0 c.args.high) c.args.items.now c.loop-item.item-index c.item-item.result c.loop-item.texts.items c.loop-item.invariant c.loop-item-test.true c.item-item.is none) c.in_err-text.ensures

pub returns-in_err-push : goal.returns-in_err-push
returns-in_err-push c = err_memory (λ v. v.items) c.from_residual-in_err-push.result (ok_or (each (bytes_of 0 c.args.high) (items_view c.args.items.now)) c.args.place) c.from_residual-in_err-push.ensures

pub loop-item-preserved : goal.loop-item-preserved
loop-item-preserved c =
    joined_next (bytes_of 0 c.args.high) c.args.items.now c.loop-item.item-index c.item-item.result c.args.place c.loop-item.texts.items c.push.new.self.items c.in_ok-text.text c.loop-item.invariant c.loop-item-test.true c.item-item.is c.in_ok-text.ensures c.in_ok-push.ensures.items

pub returns : goal.returns
returns c = joined_all (bytes_of 0 c.args.high) c.args.items.now c.loop-item.item-index c.loop-item.texts.items c.args.place c.loop-item.invariant c.loop-item-test.false
