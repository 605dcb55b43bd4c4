use Rattle.std.proofs.Common.{◌≡◌, ap, subst, length, arith, rules}
use Rattle.std.specs.Prelude.{IsTrue, ◌↔◌}
use Rattle.krb_der.specs.declared.safe.SafeMsg.{SafeMsg}
use Rattle.krb_der.specs.Writing.{IsShortBody, safe_fields_size}
use Rattle.krb_tlv.specs.Writing.{element_size}
use Rattle.krb_der.proofs.SafeDrafts.{draft_memory, drafted, over_by_body, over_limit, within_limit}
use Rattle.krb_der.proofs.safe.SafeRef.draft.Goals as goal

pub returns-then-not-is_short : goal.returns-then-not-is_short
returns-then-not-is_short c =
    let short = subst (λ (m : SafeMsg). IsTrue c.is_short.result ↔ IsShortBody m.body) c.self.view_is c.is_short.ensures in
    over_by_body c.args.self.now c.args.kind.now c.args.checksum c.is_short.result short c.if-not-is_short.true

pub returns-then-size_around-gt-FRAME_LIMIT : goal.returns-then-size_around-gt-FRAME_LIMIT
returns-then-size_around-gt-FRAME_LIMIT c =
    let is : c.fields_size_around-fields.result ≡ safe_fields_size c.args.self.now c.args.kind.now c.args.checksum (length c.args.self.now.body.user_data) = search rules in
    over_limit c.args.self.now c.args.kind.now c.args.checksum c.fields_size_around-fields.result is (omega (arith, c.size_around-2.ensures.value, ap element_size c.size_around.ensures.value, c.if-size_around-gt-FRAME_LIMIT.true))

pub returns-in_err-draft_of : goal.returns-in_err-draft_of
returns-in_err-draft_of c =
    let is : c.fields_size_around-fields.result ≡ safe_fields_size c.args.self.now c.args.kind.now c.args.checksum (length c.args.self.now.body.user_data) = search rules in
    draft_memory c.args.self.now c.args.kind.now c.args.checksum c.from_residual.result c.from_residual.ensures.1
    (within_limit c.args.self.now c.args.kind.now c.args.checksum c.fields_size_around-fields.result is (omega (arith, c.size_around-2.ensures.value, ap element_size c.size_around.ensures.value, c.if-size_around-gt-FRAME_LIMIT.false)))

pub returns : goal.returns
returns c =
    let is : c.fields_size_around-fields.result ≡ safe_fields_size c.args.self.now c.args.kind.now c.args.checksum (length c.args.self.now.body.user_data) = search rules in
    drafted c.args.self.now c.args.kind.now c.args.checksum c.fields_size_around-fields.result c.in_ok-draft_of.field-0 is
    (omega (arith, c.size_around-2.ensures.value, ap element_size c.size_around.ensures.value, c.if-size_around-gt-FRAME_LIMIT.false))
    (λ sum. record { pvno = c.known.ensures.pvno; msg_type = c.known.ensures.msg_type; body = c.known.ensures.body; cksum_type = c.known_int32.ensures })
    c.in_ok-draft_of.ensures.start c.in_ok-draft_of.ensures.bytes
