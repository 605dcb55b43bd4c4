-- A frame that comes back to its maker.
use Rattle.std.specs.Prelude.{◌≡◌, ◌↔◌, ℕ, ℤ, ◌&&◌, false, List, Err}
use Rattle.krb_seal.specs.declared.refusal.Refusal.TheVariants.{BadAddr}
use Rattle.krb_seal.specs.declared.session.Session.{Session}
use Rattle.krb_seal.specs.declared.session.Expect.{Expect}
use Rattle.krb_seal.specs.Authentic.{Authenticity}
use Rattle.krb_seal.specs.Opens.{Opens, opener_of}
use Rattle.krb_seal.specs.OpensParts.{Outcome}
use Rattle.krb_seal.specs.Seals.{Seals}
use Rattle.krb_structs.specs.declared.demand.KrbDemand.{KrbDemand}
use Rattle.krb_structs.specs.Demand.{OpensWith, all_have_room, receiver_meets, sender_meets}
use Rattle.krb_structs.specs.Session.{address_of}

-- an opener with the key refuses it, if another sender's address is expected
abbrev pub OpenersRefuseOwn : Type 0
OpenersRefuseOwn =
    (etype : ℤ) (key : List ℕ) (s : Session) (x : Expect) (q at now number : ℕ)
    (user conf frame : List ℕ) (outcome : Outcome)
    → Seals etype key s q user at conf frame → s.mode ≡ x.mode → ¬ (s.s_addr ≡ x.s_addr)
    → Opens (opener_of etype key x) number now frame outcome ↔ (outcome ≡ Err BadAddr)

-- and so do demands
abbrev pub PeersRefuseOwn : Type 0
PeersRefuseOwn =
    (etype : ℤ) (key : List ℕ) (s : Session) (x : Expect) (d : KrbDemand) (q at now : ℕ)
    (user conf frame : List ℕ) (outcome : Authenticity)
    → Seals etype key s q user at conf frame → s.mode ≡ x.mode
    → ¬ (d.how_sender ≡ 0) → ¬ (s.s_addr ≡ address_of d.sender)
    → OpensWith (opener_of etype key x) d now frame outcome ↔ (outcome ≡ Err BadAddr)

-- of a sealed frame, whoever made it, BADADDR is the refusal if and only if its addresses aren't
-- those that are demanded, or have no room
abbrev pub AddressesTell : Type 0
AddressesTell =
    (etype : ℤ) (key : List ℕ) (s : Session) (x : Expect) (d : KrbDemand) (q at now : ℕ)
    (user conf frame : List ℕ)
    → Seals etype key s q user at conf frame → s.mode ≡ x.mode
    → OpensWith (opener_of etype key x) d now frame (Err BadAddr)
    ↔ ((all_have_room s.s_addr s.r_addr
    && (sender_meets d s.s_addr && receiver_meets d s.r_addr)) ≡ false)
