use Rattle.std.proofs.Common.{◌≡◌, [], ◌++◌, ap, ◌∙◌}
use Rattle.std.proofs.lemmas.List.{take_more, take_all, map-append, append-nil, append_assoc}
use Rattle.std.proofs.lemmas.List.Folds.{concat-append}
use Rattle.sha1.specs.Sha1.{sha1, Holds}
use Rattle.krb_keys.specs.Hmac.{pad, joined}
use Rattle.krb_keys.proofs.HmacLemmas.{hmac_is}
use Rattle.krb_keys.proofs.mac_key.MacKey.hmac_sha1.Goals as goal

pub loop-part-init : goal.loop-part-init
loop-part-init c m h =
    let copy : c.unwrap-inner.result ≡ c.args.self.now.inner = rw c.unwrap-inner.ensures at c.clone.ensures.cases in
    rw (append-nil, copy) h

pub loop-part-preserved : goal.loop-part-preserved
loop-part-preserved c m h =
    rw (
      take_more c.args.parts.now c.loop-part.part-index (record { ref_ptr = (0, 0); now = [] })
          c.loop-part-test.true,
      map-append,
      concat-append,
      append-nil,
      ← append_assoc,
    )
    (c.update.ensures _ (c.loop-part.invariant m h))

pub returns : goal.returns
returns c key k =
    let copy : c.unwrap-outer.result ≡ c.args.self.now.outer = rw c.unwrap-outer.ensures at c.clone-2.ensures.cases in
    let started : Holds c.unwrap-outer.result (pad 92 key) = rw copy k.outer in
    let first =
    c.finalize.ensures _ (c.loop-part.invariant _ k.inner)
    ∙ ap (λ x. sha1 (pad 54 key ++ joined x))
    (take_all c.loop-part.part-index c.args.parts.now c.loop-part-test.false) in
    hmac_is key (joined c.args.parts.now) c.finalize.result c.finalize-2.result first
    (c.finalize-2.ensures _ (c.update-2.ensures _ started))
