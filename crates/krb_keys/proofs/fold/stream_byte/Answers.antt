use Rattle.krb_keys.specs.Stream.{stream_byte}
use Rattle.krb_keys.proofs.fold.stream_byte.Goals as goal

pub returns : goal.returns
unfolding stream_byte
returns c = c.rotated_byte.ensures
