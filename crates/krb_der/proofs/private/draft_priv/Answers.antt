use Rattle.std.proofs.Common.{◌≡◌, arith, length}
use Rattle.krb_der.specs.declared.error.DerError.TheVariants.{TooLong}
use Rattle.krb_der.specs.Body.{part}
use Rattle.krb_der.proofs.Drafts.{within_limit, over_by_more, over_limit_at, drafted, draft_too_long, draft_memory}
use Rattle.krb_der.proofs.private.draft_priv.Goals as goal

pub returns-in_err-part : goal.returns-in_err-part
returns-in_err-part c =
    let is : c.in_err-part.field-0.0 ≡ TooLong = cc c.in_err-part.ensures.err in
    draft_too_long _ _ _ _ c.from_residual.result _ c.from_residual.ensures.1 is
    (over_by_more c.args.m.now (length (part c.args.b.now)) _ c.in_err-part.ensures.too_long (omega arith))

pub returns-in_err-size : goal.returns-in_err-size
returns-in_err-size c =
    let is : c.in_err-size.field-0.0 ≡ TooLong = cc c.in_err-size.ensures.err in
    draft_too_long _ _ _ _ c.from_residual-in_err-size.result _ c.from_residual-in_err-size.ensures.1 is
    (over_limit_at c.args.m.now c.saturating_add-cipher.result _ (λ le. omega (arith, c.in_ok-part.ensures.value)) c.in_err-size.ensures.too_long)

pub returns-in_err-draft : goal.returns-in_err-draft
returns-in_err-draft c =
    draft_memory _ _ _ _ c.from_residual-in_err-draft.result c.from_residual-in_err-draft.ensures.1
    (within_limit c.args.m.now c.saturating_add-cipher.result _ (omega (arith, c.in_ok-part.ensures.value, c.in_ok-size.ensures.short)) (omega (arith, c.in_ok-size.ensures)))

pub returns : goal.returns
returns c =
    drafted c.args.m.now c.args.before.now c.args.b.now c.saturating_add-cipher.result _ c.in_ok-draft.field-0
    (omega (arith, c.in_ok-part.ensures.value, c.in_ok-size.ensures.short)) c.known.ensures c.in_ok-part.ensures.body
    (omega (arith, c.in_ok-size.ensures)) c.in_ok-draft.ensures.start c.in_ok-draft.ensures.bytes
