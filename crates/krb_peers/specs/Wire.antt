-- What a sender puts on its wire.
use Rattle.std.specs.Prelude.{◌≡◌, ℕ, true, false, List}
use Rattle.krb_peers.specs.Plan.{is_planned, wire}
use Rattle.krb_peers.specs.Sender.{Source, IsWithinLimits, records, AreFrames}
use Rattle.krb_peers.specs.Verdicts.{AllBytes}

-- these are what the plan makes of the frames of all records, and they are bytes
pub record IsWire (source : Source) (emitted : List (List ℕ)) : Type 0 where
  pub frames : List (List ℕ)
  pub sealed : AreFrames source (records source) frames
  pub planned : is_planned frames source.plan ≡ true
  pub wire_is : emitted ≡ wire frames source.plan
  pub bytes : AllBytes emitted
  pub fits : IsWithinLimits source

-- the plan is bad for the frames of all records
pub record IsBad (source : Source) : Type 0 where
  pub frames : List (List ℕ)
  pub sealed : AreFrames source (records source) frames
  pub not_planned : is_planned frames source.plan ≡ false

-- all frames of the wire were taken, after all records were sealed
pub record TakesAll (source : Source) (took : List (List ℕ)) : Type 0 where
  pub frames : List (List ℕ)
  pub sealed : AreFrames source (records source) frames
  pub whole : took ≡ wire frames source.plan
  pub fits : IsWithinLimits source
