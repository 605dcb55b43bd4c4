use Rattle.krb_peers.proofs.ClaimLemmas.{frames_headline_of}
use Rattle.krb_peers.proofs.frames.frames_laws.Goals as goal

pub returns : goal.returns
returns c = record { headline = frames_headline_of }
