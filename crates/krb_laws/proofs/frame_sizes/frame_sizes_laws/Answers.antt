use Rattle.krb_laws.proofs.FrameSizeLemmas.{one_fits, one_has_the_size, one_size}
use Rattle.krb_laws.proofs.frame_sizes.frame_sizes_laws.Goals as goal

pub returns : goal.returns
returns c = record { sizes = one_has_the_size; one = one_size; room = one_fits }
