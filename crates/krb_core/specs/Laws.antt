-- What holds of a stepped relay after any turns.
use Rattle.std.specs.Prelude.{◌≡◌, ℕ, List}
use Rattle.krb_base.specs.Lane.{has_end}
use Rattle.krb_peers.specs.Log.{has_ended}
use Rattle.krb_peers.specs.Ends.{Ends, sents_of}
use Rattle.krb_core.specs.declared.turn.Turn.{Turn}
use Rattle.krb_core.specs.Stepped.{Relay}
use Rattle.krb_core.specs.Relayed.{HasTurned, IsLane, OfEachLane, HaveHeadline, turned_events}
use Rattle.krb_core.specs.Relayed.{entries_in, takings}

-- it holds of each relay of lanes after any turns
abbrev pub OfTurned : ((lanes : List Ends) → (capacity : ℕ) → (turns : List Turn) → (relay : Relay)
    → HasTurned lanes capacity turns relay → Type 0) → Type 0
OfTurned Claim =
    (lanes : List Ends) (capacity : ℕ) (turns : List Turn) (relay : Relay)
    (turned : HasTurned lanes capacity turns relay)
    → Claim lanes capacity turns relay turned

-- the headline holds of each lane
abbrev pub TurnsKeepHeadline : Type 0
TurnsKeepHeadline = OfTurned (λ lanes capacity turns relay turned. HaveHeadline lanes relay)

-- each lane is what the events of its turns leave of an empty one, and what was sent is a prefix of
-- what its sender emits
abbrev pub TurnsKeepLanes : Type 0
TurnsKeepLanes = OfTurned (λ lanes capacity turns relay turned.
    OfEachLane lanes relay
    (λ ends lane track. IsLane ends capacity (turned_events lane turned.begun turns) track))

-- the entries are what the verdicts on the frames bring, in the order of the turns that took them
abbrev pub EntriesFollowTurns : Type 0
EntriesFollowTurns =
    OfTurned (λ lanes capacity turns relay turned. relay.log.entries
    ≡ entries_in (takings turned.begun turns))

-- the log notes that a lane has ended if and only if its End was taken
abbrev pub EndsAreNoted : Type 0
EndsAreNoted = OfTurned (λ lanes capacity turns relay turned.
    OfEachLane lanes relay (λ ends lane track. has_ended lane relay.log ≡ has_end track.lane.got))

-- how much each sender sealed stays as it was
abbrev pub SentsStay : Type 0
SentsStay = OfTurned (λ lanes capacity turns relay turned. relay.sents ≡ sents_of lanes)
