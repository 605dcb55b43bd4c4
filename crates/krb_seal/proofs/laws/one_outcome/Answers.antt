use Rattle.krb_seal.proofs.Openings.{one_outcome}
use Rattle.krb_seal.proofs.SealedFrames.{one_frame}
use Rattle.krb_seal.proofs.laws.one_outcome.Goals as goal

pub returns : goal.returns
returns c = record { outcome = one_outcome; frame = one_frame }
