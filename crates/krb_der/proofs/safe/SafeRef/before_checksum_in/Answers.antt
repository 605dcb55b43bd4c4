use Rattle.std.proofs.Common.{◌∙◌, List, ℕ, ap, refl, arith, length}
use Rattle.krb_der.specs.declared.safe.SafeMsg.{SafeMsg}
use Rattle.krb_der.specs.Typed.{typed_octets}
use Rattle.krb_der.proofs.SafeDrafts.{fields_in, front_size, last_size, length-message, short_message}
use Rattle.krb_der.proofs.safe.SafeRef.before_checksum_in.Goals as goal

pub typed_size-requires : goal.typed_size-requires
typed_size-requires c =
    omega (arith, (short_message c.args.self.now c.args.bytes.now c.requires).1, ap (λ (z : SafeMsg). length z.checksum) c.self.view_is)

pub size_around-last-requires : goal.size_around-last-requires
size_around-last-requires c =
    omega (arith, (short_message c.args.self.now c.args.bytes.now c.requires).1, ap (λ (z : SafeMsg). length z.checksum) c.self.view_is, c.typed_size.ensures.bound)

pub overflow_sub-end : goal.overflow_sub-end
overflow_sub-end c =
    let slice : List ℕ = c.self.inside.checksum.now in
    let typed = c.typed_size.ensures.value ∙ ap (λ (z : SafeMsg). length (typed_octets z.cksum_type slice)) c.self.view_is in
    let last = last_size c.args.self.now slice _ _ (ap (λ (z : SafeMsg). z.checksum) c.self.view_is) typed c.size_around-last.ensures.value in
    omega (arith, last, length-message c.args.self.now c.args.bytes.now c.requires.spelt)

pub before_checksum_size-requires-clause-data_limit : goal.before_checksum_size-requires-clause-data_limit
before_checksum_size-requires-clause-data_limit c =
    omega (arith, (short_message c.args.self.now c.args.bytes.now c.requires).0.0, ap length c.user_data.ensures, ap (λ (z : SafeMsg). length z.body.user_data) c.self.view_is)

pub before_checksum_size-requires-clause-addresses : goal.before_checksum_size-requires-clause-addresses
before_checksum_size-requires-clause-addresses c =
    let short = (short_message c.args.self.now c.args.bytes.now c.requires).0 in
    (short.1, short.2)

pub overflow_sub-start : goal.overflow_sub-start
overflow_sub-start c =
    let slice : List ℕ = c.self.inside.checksum.now in
    let typed = c.typed_size.ensures.value ∙ ap (λ (z : SafeMsg). length (typed_octets z.cksum_type slice)) c.self.view_is in
    let last = last_size c.args.self.now slice _ _ (ap (λ (z : SafeMsg). z.checksum) c.self.view_is) typed c.size_around-last.ensures.value in
    let front = front_size c.args.self.now c.args.self.now c.user_data.result.now _ (c.user_data.ensures ∙ ap (λ (z : SafeMsg). z.body.user_data) c.self.view_is) refl c.before_checksum_size.ensures.value in
    omega (arith, last, front, length-message c.args.self.now c.args.bytes.now c.requires.spelt)

pub returns-clause-fields : goal.returns-clause-fields
returns-clause-fields c =
    let slice : List ℕ = c.self.inside.checksum.now in
    let typed = c.typed_size.ensures.value ∙ ap (λ (z : SafeMsg). length (typed_octets z.cksum_type slice)) c.self.view_is in
    let last = last_size c.args.self.now slice _ _ (ap (λ (z : SafeMsg). z.checksum) c.self.view_is) typed c.size_around-last.ensures.value in
    let front = front_size c.args.self.now c.args.self.now c.user_data.result.now _ (c.user_data.ensures ∙ ap (λ (z : SafeMsg). z.body.user_data) c.self.view_is) refl c.before_checksum_size.ensures.value in
    fields_in c.args.self.now c.args.bytes.now _ _ c.requires.spelt last front
