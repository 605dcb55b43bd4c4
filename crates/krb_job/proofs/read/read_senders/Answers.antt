use Rattle.std.proofs.Common.{◌≡◌, [], ◌∷◌, ◌++◌, map, All, IsSome, sym, arith}
use Rattle.std.proofs.lemmas.Grind.{common_steps}
use Rattle.std.proofs.lemmas.List.Elements.{All-nil}
use Rattle.toml.specs.View.{items_view}
use Rattle.krb_job.specs.SenderView.{sender_view}
use Rattle.krb_job.specs.Job.{senders_from}
use Rattle.krb_job.proofs.JobLemmas.{senders_none, senders_more, senders_stop, senders_all, err_gives-job, All-more}
use Rattle.krb_job.proofs.FailLemmas.{err_holds}
use Rattle.krb_job.specs.declared.bad_input.JobError.TheVariants.{Memory}
use Rattle.krb_job.proofs.read.read_senders.Goals as goal

pub loop-j-init : goal.loop-j-init
loop-j-init c = record {
  read = senders_none c.args.command (items_view c.args.items.now) c.new-senders.result.items c.new-senders.ensures.items;
  seeds = λ sealing. rw c.new-senders.ensures.items (All-nil (λ sender. IsSome sender.seed));
}

pub returns-in_err-sender-clause-value : goal.returns-in_err-sender-clause-value
returns-in_err-sender-clause-value c =
    let failed = rw c.as_slice.ensures.value at c.in_err-sender.ensures.value in
    err_gives-job (λ v. map sender_view v.items) c.from_residual.result c.in_err-sender.field-0.0 (senders_from c.args.command 0 [] (items_view c.args.items.now)) c.from_residual.ensures
    (senders_stop c.args.command c.args.items.now c.loop-j.j c.index-items-j.result c.loop-j.senders.items c.in_err-sender.field-0.0 c.loop-j-test.true (sym c.index-items-j.is) failed c.loop-j.invariant.read)

pub returns-in_err-sender-clause-seeds : goal.returns-in_err-sender-clause-seeds
returns-in_err-sender-clause-seeds c = λ sealing. err_holds (λ senders. All (λ sender. IsSome sender.seed) senders.items) c.from_residual.result c.from_residual.ensures.0

pub returns-in_err-push-clause-value : goal.returns-in_err-push-clause-value
returns-in_err-push-clause-value c = err_gives-job (λ v. map sender_view v.items) c.from_residual-in_err-push.result Memory (senders_from c.args.command 0 [] (items_view c.args.items.now)) c.from_residual-in_err-push.ensures tt

pub returns-in_err-push-clause-seeds : goal.returns-in_err-push-clause-seeds
returns-in_err-push-clause-seeds c = λ sealing. err_holds (λ senders. All (λ sender. IsSome sender.seed) senders.items) c.from_residual-in_err-push.result c.from_residual-in_err-push.ensures.0

pub loop-j-preserved : goal.loop-j-preserved
loop-j-preserved c =
    let same : c.push.new.self.items ≡ c.loop-j.senders.items ++ c.in_ok-sender.sender ∷ [] = grind (arith, common_steps) in
    let made = rw c.as_slice.ensures.value at c.in_ok-sender.ensures.value in
    record {
      read = rw same (senders_more c.args.command c.args.items.now c.loop-j.j c.index-items-j.result c.loop-j.senders.items c.in_ok-sender.sender (omega arith) (sym c.index-items-j.is) made c.loop-j.invariant.read);
      seeds = λ sealing. rw same (All-more (λ sender. IsSome sender.seed) c.loop-j.senders.items c.in_ok-sender.sender (c.loop-j.invariant.seeds sealing) (c.in_ok-sender.ensures.seed sealing));
    }

pub returns-clause-value : goal.returns-clause-value
returns-clause-value c = senders_all c.args.command c.args.items.now c.loop-j.j c.loop-j.senders.items c.loop-j-test.false c.loop-j.invariant.read

pub returns-clause-seeds : goal.returns-clause-seeds
returns-clause-seeds c = c.loop-j.invariant.seeds
