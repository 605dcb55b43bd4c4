use Rattle.std.proofs.Common.{◌≡◌, Result, Ok, get_or, subst, sym}
use Rattle.std.proofs.lemmas.Option.{slice_get-get_or}
use Rattle.krb_der.specs.declared.error.DerError.{DerError}
use Rattle.krb_der.specs.declared.safe.SafeDraft.{SafeDraft}
use Rattle.krb_der.specs.declared.safe.SafeMsg.{SafeMsg}
use Rattle.krb_der.specs.Message.{DraftsSafe}
use Rattle.krb_seal.specs.Body.{IsSmall}
use Rattle.krb_seal.proofs.Frames.{memory_safe}
use Rattle.krb_bulk.specs.BulkInside.{IsDraft, IsDraftAt, body_at}
use Rattle.krb_bulk.proofs.BulkLemmas.{if_ok, of_index}
use Rattle.krb_bulk.proofs.SafeLemmas.{draft_of}
use Rattle.krb_bulk.proofs.bulk.Bulk.draft.Goals as goal

pub within_limit-requires : goal.within_limit-requires
within_limit-requires c =
    memory_safe c.unsigned-message.result _ c.draft_safe.result c.draft_safe.ensures
    (subst (λ (m : SafeMsg). IsSmall m.body) (sym c.unsigned-message.ensures) c.body.ensures.small)

pub returns : goal.returns
returns c =
    let b = c.args.self.now in
    let d = c.index-self-index.result in
    let x = get_or b.messages.now c.args.index d in
    let m = c.unsigned-message.result in
    if_ok (λ draft. c.draft_safe.result ≡ Ok draft) (IsDraftAt b c.args.index) c.within_limit.result
    (λ draft is.
    of_index (λ y. IsDraft b.parts.etype y.confounder (body_at b c.args.index y) draft) b.messages.now c.args.index d
    (draft_of b.parts.etype x.confounder c.body.result (body_at b c.args.index x) m draft c.known_confounder.ensures
    (c.body.ensures.body x (slice_get-get_or b.messages.now c.args.index d c.requires.index)) c.unsigned-message.ensures
    (subst (λ (r : Result SafeDraft DerError). DraftsSafe m m.cksum_type 12 r) is c.draft_safe.ensures)))
    c.within_limit.ensures
