use Rattle.std.proofs.Common.{take, ap, ◌∙◌}
use Rattle.krb_keys.proofs.mac_key.MacKey.hmac96.Goals as goal

pub returns : goal.returns
returns c key h = c.copy_from_slice.ensures.after ∙ ap (take 12) (c.hmac_sha1-whole.ensures key h)
