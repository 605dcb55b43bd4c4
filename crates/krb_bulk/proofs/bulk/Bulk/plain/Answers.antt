use Rattle.std.proofs.Common.{ℕ, ◌+◌, length, Result, get_or, subst, arith}
use Rattle.std.proofs.lemmas.Option.{slice_get-get_or}
use Rattle.krb_der.specs.declared.error.DerError.{DerError}
use Rattle.krb_der.specs.declared.private.Draft.{Draft}
use Rattle.krb_der.specs.declared.private.PrivMsg.{PrivMsg}
use Rattle.krb_der.specs.Body.{part}
use Rattle.krb_der.specs.Message.{Drafts, IsDraft}
use Rattle.krb_seal.proofs.Frames.{memory_draft, small_cipher}
use Rattle.krb_bulk.specs.BulkInside.{IsPlain, body_at}
use Rattle.krb_bulk.proofs.BulkLemmas.{of_index, plain_of}
use Rattle.krb_bulk.proofs.bulk.Bulk.plain.Goals as goal

pub within_limit-requires : goal.within_limit-requires
within_limit-requires c =
    memory_draft _ _ _ _ c.draft_priv.result c.draft_priv.ensures (omega (arith, c.known_confounder.ensures, small_cipher c.body-body.result c.body-body.ensures.small))

pub returns : goal.returns
returns c =
    let b = c.args.self.now in
    let d = c.index-self-index.result in
    let m = get_or b.messages.now c.args.index d in
    let made = c.body-body.result in
    let n : ℕ = length m.confounder + length (part made) + 12 in
    let draft : Draft = c.in_ok-draft.draft in
    let told : IsDraft c.unenciphered-message.result m.confounder made n draft =
    subst (λ (r : Result Draft DerError). Drafts c.unenciphered-message.result m.confounder made n r) c.in_ok-draft.ensures c.draft_priv.ensures in
    of_index (λ x. IsPlain b.parts.etype x.confounder (body_at b c.args.index x) (record { bytes = c.new.result; start = draft.start })) b.messages.now c.args.index d
    (plain_of b.parts.etype m.confounder made (body_at b c.args.index m) draft c.new.result c.known_confounder.ensures
    (c.body-body.ensures.body m (slice_get-get_or b.messages.now c.args.index d c.requires.index)) c.new.ensures
    (subst (λ (x : PrivMsg). IsDraft x m.confounder made n draft) c.unenciphered-message.ensures told))
