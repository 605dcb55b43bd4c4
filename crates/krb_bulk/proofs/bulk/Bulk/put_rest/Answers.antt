use Rattle.std.proofs.Common.{ℕ, List, sym, subst, ◌∙◌, arith}
use Rattle.std.specs.Global.{Vec}
use Rattle.krb_bulk.specs.BulkInside.{SealsFirst}
use Rattle.krb_bulk.proofs.FirstLemmas.{first_more}
use Rattle.krb_bulk.proofs.bulk.Bulk.put_rest.Goals as goal

pub loop-index-preserved : goal.loop-index-preserved
loop-index-preserved c =
    let b = c.args.self.now in
    let old = c.loop-index.frames in
    let kept = c.loop-index.invariant in (
      omega (arith, kept.0, c.in_ok-push.ensures.len),
      subst (λ (xs : List (Vec ℕ)). SealsFirst b xs) (sym c.in_ok-push.ensures.items)
          (first_more b old.items c.in_ok-frame.frame c.loop-index.index (kept.0 ∙ old.ok.0) c.loop-index-test.true kept.1 c.in_ok-frame.ensures),
    )
