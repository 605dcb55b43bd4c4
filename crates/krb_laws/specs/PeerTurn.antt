-- A frame in its turn.
use Rattle.std.specs.Prelude.{◌≡◌, ◌↔◌, ℕ, true, List, Ok}
use Rattle.krb_seal.specs.Authentic.{Authenticity}
use Rattle.krb_seal.specs.Opens.{opener_of}
use Rattle.krb_seal.specs.Seals.{Seals, body_of}
use Rattle.krb_structs.specs.Demand.{OpensWith, time_meets}
use Rattle.krb_structs.specs.Peer.{of_number, peer_expect}
use Rattle.krb_structs.specs.Session.{expect_of, session_of}
use Rattle.krb_laws.specs.Peers.{PeerEnd, ArePeers}
use Rattle.krb_laws.specs.PeersHappen.{Suits}

-- What is sealed under the demanded number opens, and gives what was sealed, if its addresses and its
-- time are what is demanded.
abbrev pub PeersOpenTheNext : Type 0
PeersOpenTheNext =
    (a b : PeerEnd) (n at now : ℕ) (user conf frame : List ℕ) (outcome : Authenticity)
    → ArePeers a b → Suits a b
    → Seals a.etype a.key (session_of a.session) n user at conf frame
    → time_meets b.demand now (body_of (session_of a.session) n user at) ≡ true
    → OpensWith (opener_of b.etype b.key (expect_of (peer_expect b.session b.demand)))
    (of_number b.demand n) now frame outcome
    ↔ (outcome ≡ Ok (body_of (session_of a.session) n user at))
