use Rattle.std.proofs.Common.{◌≤◌, List, ℕ, Result, length, subst, sym}
use Rattle.krb_base.specs.Limits.{frame_limit}
use Rattle.krb_der.specs.declared.error.DerError.{DerError}
use Rattle.krb_der.specs.declared.safe.SafeDraft.{SafeDraft}
use Rattle.krb_der.specs.Message.{DraftsSafe, IsSafeDraft}
use Rattle.krb_seal.proofs.Frames.{memory_safe, short_fields}
use Rattle.krb_seal.proofs.frame.safe_frame.Goals as goal

pub within_limit-requires : goal.within_limit-requires
within_limit-requires c = memory_safe c.args.message.now _ c.draft_safe.result c.draft_safe.ensures c.requires.small

pub checksum_of-checksum-requires-clause-limit : goal.checksum_of-checksum-requires-clause-limit
checksum_of-checksum-requires-clause-limit c =
    let m = c.args.message.now in
    let told : IsSafeDraft m m.cksum_type 12 c.in_ok-draft.draft = subst (λ (r : Result SafeDraft DerError). DraftsSafe m m.cksum_type 12 r) c.in_ok-draft.ensures c.draft_safe.ensures in
    subst (λ (s : List ℕ). length s ≤ frame_limit) (sym c.fields.ensures) (short_fields m m.cksum_type c.in_ok-draft.draft told)
