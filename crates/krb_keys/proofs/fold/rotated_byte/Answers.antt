use Rattle.std.proofs.Common.{refl}
use Rattle.krb_keys.specs.Stream.{rotated_byte}
use Rattle.krb_keys.proofs.fold.rotated_byte.Goals as goal

pub returns : goal.returns
unfolding rotated_byte
returns c = refl
