-- How a stepped relay begins.
use Rattle.std.specs.Prelude.{◌≡◌, ℕ, false, ◌⊎◌, List, [], ◌∷◌, ◌++◌, length}
use Rattle.krb_base.specs.Lane.{empty}
use Rattle.krb_peers.specs.declared.sending.Sent.{Sent}
use Rattle.krb_peers.specs.declared.start.StartError.{StartError}
use Rattle.krb_peers.specs.declared.start.StartError.TheVariants.{Memory}
use Rattle.krb_peers.specs.ReceiverState.{ReceiverState}
use Rattle.krb_peers.specs.Sending.{sent_of}
use Rattle.krb_peers.specs.Ends.{Ends}
use Rattle.krb_peers.specs.Wire.{IsWire}
use Rattle.krb_peers.specs.StartError.{IsReason}
use Rattle.krb_core.specs.Track.{TrackState}

-- nothing was sent
abbrev pub fresh : List (List ℕ) → ReceiverState → List ℕ → ℕ → TrackState
fresh emitted receiver nows capacity =
    record { wire = emitted; lane = empty capacity; receiver = receiver; nows = nows }

-- a lane that begins: all is sealed and planned, and nothing was sent
pub record IsBegun (ends : Ends) (capacity : ℕ) (track : TrackState) (sent : Sent) : Type 0 where
  pub live : ends.source.sealer.wiped ≡ false
  pub emitted : IsWire ends.source track.wire
  pub is_fresh : track ≡ fresh track.wire ends.receiver ends.nows capacity
  pub says : sent ≡ sent_of ends.source

-- lane by lane
abbrev pub AreBegun : ℕ → List Ends → List TrackState → List Sent → Type 0
AreBegun capacity [] [] [] = Unit {0}
AreBegun capacity (ends ∷ lanes) (track ∷ tracks) (sent ∷ sents) =
    IsBegun ends capacity track sent × AreBegun capacity lanes tracks sents
AreBegun capacity lanes tracks sents = ⊥

-- a lane doesn't begin, and all lanes before it do
pub record FailsAt (capacity : ℕ) (lanes : List Ends) (error : StartError) : Type 0 where
  pub before : List Ends
  pub ends : Ends
  pub following : List Ends
  pub lanes_are : lanes ≡ before ++ ends ∷ following
  pub tracks : List TrackState
  pub sents : List Sent
  pub begun : AreBegun capacity before tracks sents
  pub reason : IsReason ends.source (length before) error

-- why a relay doesn't begin
abbrev pub FailsToBegin : ℕ → List Ends → StartError → Type 0
FailsToBegin capacity lanes error = (error ≡ Memory) ⊎ FailsAt capacity lanes error
