-- A frame, one with a byte changed, or raw bytes.
use Rattle.std.proofs.Common.{arith}
use Rattle.krb_peers.specs.Plan.{contents}
use Rattle.krb_peers.proofs.EmissionLemmas.{frame_bytes, flipped_bytes}
use Rattle.krb_peers.proofs.emission.known_emission.Goals as goal

pub returns-in-Frame : goal.returns-in-Frame
returns-in-Frame c = rw c.in-Frame.is (λ all. frame_bytes (contents c.args.frames.now) _ all)

pub returns-in-Flip : goal.returns-in-Flip
returns-in-Flip c = rw c.in-Flip.is (λ all. flipped_bytes _ _ _ (frame_bytes (contents c.args.frames.now) _ all) (omega arith))
