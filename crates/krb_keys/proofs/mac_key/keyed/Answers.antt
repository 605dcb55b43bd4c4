use Rattle.std.proofs.Common.{[]}
use Rattle.krb_keys.proofs.mac_key.keyed.Goals as goal

pub returns : goal.returns
returns c = rw (← c.padded_key.ensures) (c.update.ensures [] c.new-hash.ensures)
