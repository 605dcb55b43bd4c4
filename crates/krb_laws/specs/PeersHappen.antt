-- The premises of two peers can be met at once.
use Rattle.std.specs.Prelude.{◌≡◌, ℕ, ◌+◌, ◌≤◌, ◌&&◌, true, List, length, slice_get, Some}
use Rattle.krb_base.specs.Bytes.{AreBytes}
use Rattle.krb_base.specs.Limits.{user_data_limit}
use Rattle.krb_der.specs.Moment.{last_moment}
use Rattle.krb_etype.specs.declared.etype.Etype.{Etype}
use Rattle.krb_etype.specs.Etype.{confounder_size, number_of}
use Rattle.krb_seal.specs.Sealer.{end_of_numbers}
use Rattle.krb_structs.specs.Demand.{all_have_room, receiver_meets, sender_meets}
use Rattle.krb_structs.specs.Peer.{PeerState}
use Rattle.krb_structs.specs.Session.{session_of}
use Rattle.krb_seal.specs.Exists.{HasHosts}
use Rattle.krb_laws.specs.Peers.{PeerEnd, PeerCall, IsPeerAt, ArePeerCalls, ArePeers, OpenOfBoth, opened_in, sealed_in}

-- the addresses that one peer writes are those that the other one demands
pub record Suits (a b : PeerEnd) : Type 0 where
  pub room :
      let s = session_of a.session in all_have_room s.s_addr s.r_addr ≡ true
  pub addresses :
      let s = session_of a.session in
      (sender_meets b.demand s.s_addr && receiver_meets b.demand s.r_addr) ≡ true

-- data that messages can carry
abbrev pub AreData : List (List ℕ) → Type 0
AreData data_of = (k : ℕ) (user : List ℕ) → slice_get data_of k ≡ Some user
    → (length user ≤ user_data_limit) × AreBytes user

-- calls of two peers, of which the first seals all of the data, and the second opens all of them
pub record Talk (a b : PeerEnd) (start_a start_b : PeerState) (data_of : List (List ℕ)) : Type 0 where
  pub calls_a : List PeerCall
  pub calls_b : List PeerCall
  pub end_a : PeerState
  pub end_b : PeerState
  pub are_a : ArePeerCalls a start_a calls_a end_a
  pub are_b : ArePeerCalls b start_b calls_b end_b
  pub to_b : OpenOfBoth calls_a calls_b
  pub to_a : OpenOfBoth calls_b calls_a
  pub sealed : sealed_in calls_a ≡ data_of
  pub opened : opened_in calls_b ≡ data_of

-- of all data within the limits there are such calls, at any moment that is theirs
abbrev pub PeersHappen : Type 0
PeersHappen =
    (etype : Etype) (a b : PeerEnd) (start_a start_b : PeerState) (from_a from_b at : ℕ)
    (data_of : List (List ℕ)) (conf : List ℕ)
    → number_of etype ≡ a.etype → ArePeers a b → Suits a b → HasHosts (session_of a.session)
    → IsPeerAt a from_a from_b start_a → IsPeerAt b from_b from_a start_b
    → from_a + length data_of ≤ end_of_numbers → AreData data_of → at ≤ last_moment
    → length conf ≡ confounder_size → AreBytes conf
    → Talk a b start_a start_b data_of
