use Rattle.krb_keys.proofs.HmacLemmas.{long_key, short_key}
use Rattle.krb_keys.proofs.mac_key.key_block.Goals as goal

pub returns-then-key-gt64 : goal.returns-then-key-gt64
returns-then-key-gt64 c =
    long_key c.args.key.now c.copy_from_slice.new.self c.digest-digest.result c.if-key-gt64.true c.copy_from_slice.ensures.len c.digest-digest.ensures c.copy_from_slice.ensures.after

pub returns-else-key-gt64 : goal.returns-else-key-gt64
returns-else-key-gt64 c =
    short_key c.args.key.now c.copy_from_slice-else-key-gt64.new.self c.if-key-gt64.false c.copy_from_slice-else-key-gt64.ensures.after
