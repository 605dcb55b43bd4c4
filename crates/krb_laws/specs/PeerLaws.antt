-- What holds of the calls of peers.
use Rattle.std.specs.Prelude.{ℕ, ◌+◌, List, ◌++◌, length, take}
use Rattle.krb_base.specs.Prefix.{IsPrefix}
use Rattle.krb_seal.specs.Sealer.{SealerState}
use Rattle.krb_structs.specs.Peer.{PeerState, new_peer}
use Rattle.krb_laws.specs.Peers.{PeerEnd, PeerCall, IsPeerAt, ArePeerCalls, Hears, OpenNoForgery}
use Rattle.krb_laws.specs.Peers.{ArePeers, TellsApart, OpenOfBoth, opened_in, sealed_in, sealings_in}

abbrev pub PeersBegin : Type 0
PeersBegin =
    (e : PeerEnd)
    → IsPeerAt e e.session.first e.demand.number (new_peer e.etype e.key e.session e.demand)

-- each message that is sealed or opened has the next number, through exports too
abbrev pub PeersKeepNumbers : Type 0
PeersKeepNumbers =
    (e : PeerEnd) (start end : PeerState) (calls : List PeerCall) (next expected : ℕ)
    → IsPeerAt e next expected start → ArePeerCalls e start calls end
    → IsPeerAt e (next + length (sealings_in calls)) (expected + length (opened_in calls)) end

-- some calls and those that go on from them are calls
abbrev pub PeerCallsGoOn : Type 0
PeerCallsGoOn =
    (e : PeerEnd) (start between end : PeerState) (calls more : List PeerCall)
    → ArePeerCalls e start calls between → ArePeerCalls e between more end
    → ArePeerCalls e start (calls ++ more) end

-- whatever comes, what is opened continues the first data, in order and each once
abbrev pub PeersOpenInOrder : Type 0
PeersOpenInOrder =
    (e : PeerEnd) (sealer : SealerState) (data_of : List (List ℕ)) (start end : PeerState)
    (calls : List PeerCall) (next first : ℕ)
    → Hears e sealer → IsPeerAt e next (sealer.next + first) start
    → ArePeerCalls e start calls end → OpenNoForgery sealer data_of first calls
    → IsPrefix (take first data_of ++ opened_in calls) data_of

-- and of two peers that begin with the same numbers, each opens a prefix of what the other sealed
abbrev pub PeersAgree : Type 0
PeersAgree =
    (a b : PeerEnd) (start_a end_a start_b end_b : PeerState) (calls_a calls_b : List PeerCall)
    (from_a from_b : ℕ)
    → ArePeers a b → TellsApart a → TellsApart b
    → IsPeerAt a from_a from_b start_a → IsPeerAt b from_b from_a start_b
    → ArePeerCalls a start_a calls_a end_a → ArePeerCalls b start_b calls_b end_b
    → OpenOfBoth calls_a calls_b → OpenOfBoth calls_b calls_a
    → IsPrefix (opened_in calls_b) (sealed_in calls_a)
    × IsPrefix (opened_in calls_a) (sealed_in calls_b)
