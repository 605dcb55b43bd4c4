use Rattle.krb_seal.proofs.SealedFrames.{nowhere_else, at_its_number}
use Rattle.krb_seal.proofs.laws.opens_at_its_number_alone.Goals as goal

pub returns : goal.returns
returns c = record { nothing_else = nowhere_else; opens = at_its_number }
