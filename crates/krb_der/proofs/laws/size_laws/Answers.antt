use Rattle.krb_der.proofs.Sizes.{small_part, small_safe, small_private, shorter_input}
use Rattle.krb_der.proofs.laws.size_laws.Goals as goal

pub returns : goal.returns
returns c = record { part = small_part; safe = small_safe; private = small_private; covered = shorter_input }
