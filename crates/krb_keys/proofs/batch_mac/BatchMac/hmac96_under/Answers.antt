use Rattle.std.proofs.Common.{◌≡◌, ◌∙◌, take, ap}
use Rattle.krb_digests.specs.Lanes.{message, texts}
use Rattle.krb_keys.specs.Hmac.{hmac, pad}
use Rattle.krb_keys.proofs.HmacLemmas.{hmac_is, length-pad}
use Rattle.krb_keys.proofs.batch_mac.BatchMac.hmac96_under.Goals as goal

pub returns : goal.returns
returns c j key none lt held =
    let text = message j (texts c.args.messages.now) in
    let whole : message j c.digests_of_20_after.result ≡ hmac key text =
    hmac_is key text (message j c.digests_after-first.result) (message j c.digests_of_20_after.result)
    (c.digests_after-first.ensures (pad 0x36 key) j (length-pad 0x36 key) (c.inners.ensures j none lt ∙ held.inner) lt)
    (c.digests_of_20_after.ensures (pad 0x5c key) j (length-pad 0x5c key) (c.outers.ensures j none lt ∙ held.outer) lt) in
    c.cut_each.ensures j lt ∙ ap (take 12) whole
