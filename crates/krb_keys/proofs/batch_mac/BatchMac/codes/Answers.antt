use Rattle.krb_digests.specs.Lanes.{message, texts}
use Rattle.krb_keys.specs.Hmac.{pad}
use Rattle.krb_keys.proofs.HmacLemmas.{hmac_is, length-pad}
use Rattle.krb_keys.proofs.batch_mac.BatchMac.codes.Goals as goal

pub returns : goal.returns
returns c key j held lt =
    hmac_is key (message j (texts c.args.messages.now)) (message j c.digests-first.result) (message j c.digests_of_20.result)
    (c.digests-first.ensures (pad 0x36 key) j (length-pad 0x36 key) held.inner lt)
    (c.digests_of_20.ensures (pad 0x5c key) j (length-pad 0x5c key) held.outer lt)
