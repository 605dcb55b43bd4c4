use Rattle.std.proofs.Common.{◌+◌, ℕ, length, Result, subst, arith}
use Rattle.krb_der.specs.declared.error.DerError.{DerError}
use Rattle.krb_der.specs.declared.private.PrivMsg.{PrivMsg}
use Rattle.krb_der.specs.declared.private.Draft.{Draft}
use Rattle.krb_der.specs.Body.{part}
use Rattle.krb_der.specs.Message.{IsDraft, Drafts}
use Rattle.krb_seal.proofs.Frames.{memory_draft, small_cipher, seals_draft}
use Rattle.krb_seal.proofs.frame.priv_frame.Goals as goal

pub within_limit-requires : goal.within_limit-requires
within_limit-requires c = memory_draft _ _ _ _ c.draft_priv.result c.draft_priv.ensures (omega (arith, small_cipher c.args.body.now c.requires.small))

pub returns : goal.returns
returns c =
    let n : ℕ = length c.args.confounder + length (part c.args.body.now) + 12 in
    let told : IsDraft c.unenciphered-message.result c.args.confounder c.args.body.now n c.in_ok-draft.draft =
    subst (λ (r : Result Draft DerError). Drafts c.unenciphered-message.result c.args.confounder c.args.body.now n r) c.in_ok-draft.ensures c.draft_priv.ensures in
    seals_draft c.args.etype c.args.keys.now.key c.args.confounder c.args.body.now c.in_ok-draft.draft c.finished.result (omega arith)
    (subst (λ (m : PrivMsg). IsDraft m c.args.confounder c.args.body.now n c.in_ok-draft.draft) c.unenciphered-message.ensures told)
    c.finished.ensures.frame c.finished.ensures.plain
