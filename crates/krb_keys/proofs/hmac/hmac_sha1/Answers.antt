use Rattle.std.proofs.Common.{ap, ◌∙◌}
use Rattle.std.proofs.lemmas.List.{append-nil}
use Rattle.krb_keys.specs.Hmac.{hmac}
use Rattle.krb_keys.proofs.hmac.hmac_sha1.Goals as goal

pub returns : goal.returns
returns c = c.hmac_sha1-code.ensures c.args.key.now c.new-mac.ensures
    ∙ ap (hmac c.args.key.now) (append-nil c.args.bytes.now)
