use Rattle.std.proofs.Common.{◌≡◌, ℕ, Bool, Some, refl, length, take, sym, subst, arith, add-one}
use Rattle.std.specs.Prelude.{slice_get}
use Rattle.std.proofs.lemmas.Option.{slice_get_read}
use Rattle.krb_seal.specs.Lent.{advanced_by}
use Rattle.krb_bulk.specs.Many.{CanSeal, CanSealInTurn, Refuses}
use Rattle.krb_bulk.specs.Numbered.{CanSealAt, RefusesAt}
use Rattle.krb_bulk.proofs.TurnLemmas.{can_more, can_seal_at, refused_after, refuses_at}
use Rattle.krb_bulk.proofs.BulkLemmas.{of_found}
use Rattle.krb_bulk.proofs.many.check.Goals as goal

pub returns-in-Err : goal.returns-in-Err
returns-in-Err g c =
    let s = c.args.sealer.now in
    let ms = c.args.messages.now in
    let i = c.loop-index.index in
    let d = c.index-messages-index.result in
    let found : slice_get ms i ≡ Some d = slice_get_read ms (length ms) i d refl c.loop-index-test.true c.index-messages-index.is in
    let kept = c.loop-index.invariant in
    let told : RefusesAt s.wiped c.loop-index.number d c.in-Err.why =
    subst (λ (w : Bool). RefusesAt w c.loop-index.number d c.in-Err.why) c.is_wiped-is_wiped.ensures c.in-Err.ensures in
    let refuses : Refuses (advanced_by s i) d c.in-Err.why =
    subst (λ (n : ℕ). Refuses (record s { next = n }) d c.in-Err.why) kept.2 (refuses_at s c.loop-index.number d c.in-Err.why kept.3 told) in
    refused_after s ms i d c.in-Err.why kept.0 found refuses

pub loop-index-preserved : goal.loop-index-preserved
loop-index-preserved g c =
    let s = c.args.sealer.now in
    let ms = c.args.messages.now in
    let i = c.loop-index.index in
    let d = c.index-messages-index.result in
    let found : slice_get ms i ≡ Some d = slice_get_read ms (length ms) i d refl c.loop-index-test.true c.index-messages-index.is in
    let kept = c.loop-index.invariant in
    let told : CanSealAt s.wiped c.loop-index.number d =
    subst (λ (w : Bool). CanSealAt w c.loop-index.number d) c.is_wiped-is_wiped.ensures c.in_default.ensures in
    let can : CanSeal (advanced_by s i) d =
    subst (λ (n : ℕ). CanSeal (record s { next = n }) d) kept.2 (can_seal_at s c.loop-index.number d told) in (
      subst (λ (n : ℕ). CanSealInTurn s (take n ms)) (sym (add-one i))
          (can_more s ms i kept.0 c.loop-index-test.true (of_found (λ x. CanSeal (advanced_by s i) x) ms i d found can)),
      kept.1,
      omega (arith, kept.2),
      omega (arith, told.left),
    )
