use Rattle.krb_keys.proofs.HmacLemmas.{pad_is}
use Rattle.krb_keys.proofs.mac_key.padded_key.Goals as goal

pub returns : goal.returns
returns c = pad_is c.args.byte c.args.key.now _ _ c.key_block-block.ensures c.mask.ensures
