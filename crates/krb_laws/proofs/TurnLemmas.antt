-- The demanded frame opens.
use Rattle.std.proofs.Common.{◌≡◌, ◌∙◌, true, Some, Ok, refl, sym, subst}
use Rattle.std.specs.Prelude.{nat_eq}
use Rattle.std.proofs.lemmas.Bool.{eq-eqb}
use Rattle.krb_der.specs.declared.body.Body.{Body}
use Rattle.krb_seal.specs.Authentic.{Authenticity, Authenticates, GivesBody}
use Rattle.krb_seal.specs.Opens.{OpenerState, opener_of}
use Rattle.krb_seal.specs.Seals.{Seals, body_of}
use Rattle.krb_seal.proofs.Authentics.{sealed_is_authentic}
use Rattle.krb_seal.proofs.Outcomes.{one_authenticity, passes_unique}
use Rattle.krb_seal.proofs.SealedFrames.{all_met}
use Rattle.krb_structs.specs.declared.demand.KrbDemand.{KrbDemand}
use Rattle.krb_structs.specs.Demand.{AsDemanded, demand_checks, number_meets}
use Rattle.krb_structs.specs.Peer.{of_number, peer_expect}
use Rattle.krb_structs.specs.Session.{expect_of, session_of}
use Rattle.krb_laws.specs.PeerTurn.{PeersOpenTheNext}
use Rattle.krb_laws.proofs.HappenLemmas.{or_right, sealed_tells}

pub open_the_next : PeersOpenTheNext
open_the_next a b n at now user conf frame outcome peers suits seals in_time =
    let s = session_of a.session in
    let x = expect_of (peer_expect b.session b.demand) in
    let o : OpenerState = opener_of b.etype b.key x in
    let d : KrbDemand = of_number b.demand n in
    let body : Body = body_of s n user at in
    let mine : Seals b.etype b.key s n user at conf frame = rw (← peers.etype, ← peers.key) seals in
    let its : Authenticates o frame (Ok body) = sealed_is_authentic b.etype b.key s x n at user conf frame mine peers.mode in
    let number : number_meets d (Some n) ≡ true = or_right (nat_eq b.demand.how_number 0) (nat_eq n n) (eq-eqb n n refl) in
    let met : AsDemanded d now (Ok body) (Ok body) = all_met (demand_checks d now body) (GivesBody body) (Ok body) (suits.room, (suits.addresses, (in_time, (number, (sealed_tells d s n user at, tt))))) refl in (
      λ is. passes_unique (demand_checks d now body) (GivesBody body) (λ y z p r. p ∙ sym r) outcome (Ok body) (subst (λ (y : Authenticity). AsDemanded d now y outcome) (one_authenticity o frame is.0 (Ok body) is.1 its) is.2) met,
      λ is. (Ok body, its, subst (λ (y : Authenticity). AsDemanded d now (Ok body) y) (sym is) met),
    )
