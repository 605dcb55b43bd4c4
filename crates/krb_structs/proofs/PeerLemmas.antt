-- The number of a peer's demand.
use Rattle.std.proofs.Common.{◌≡◌, ◌≤◌, ℕ, ◌⊎◌, Bool, true, false, List, Option, Some, None, Ok, Err, refl, sym, ap, ◌∙◌, inl, inr, arith}
use Rattle.std.specs.Prelude.{◌&&◌, ◌||◌, not, nat_eq, unwrap_or}
use Rattle.std.proofs.lemmas.Bool.{eqb-true}
use Rattle.std.proofs.lemmas.List.Elements.{All-replicate}
use Rattle.krb_der.specs.declared.body.Body.{Body}
use Rattle.krb_seal.specs.Opens.{OpenerState}
use Rattle.krb_seal.specs.Authentic.{Authenticity, GivesBody}
use Rattle.krb_seal.specs.Sealer.{end_of_numbers}
use Rattle.krb_structs.specs.declared.carried.KrbCarried.{KrbCarried}
use Rattle.krb_structs.specs.declared.demand.KrbDemand.{KrbDemand}
use Rattle.krb_structs.specs.Demand.{AsDemanded, demand_checks, number_meets}
use Rattle.krb_structs.specs.Opening.{GivesTo}
use Rattle.krb_structs.specs.declared.session.KrbSession.{KrbSession}
use Rattle.krb_structs.specs.Peer.{IsPeerDemand, of_number, peer_expect}
use Rattle.krb_structs.specs.Session.{IsExpect}
use Rattle.krb_structs.proofs.LawLemmas.{met_all, same_body}

demanded : (how : ℕ) → (how ≡ 2) ⊎ (how ≡ 3) → how ≡ 0 → ⊥
demanded how (inl e) zero = omega arith
demanded how (inr e) zero = omega arith

-- another number is demanded in the same way
pub renumbered : (d : KrbDemand) (n : ℕ) → IsPeerDemand d → n ≤ end_of_numbers → IsPeerDemand (of_number d n)
renumbered d n is fits =
    let hows = is.is_demand.hows in let addresses = is.is_demand.addresses in let numbers = is.is_demand.numbers in
    record {
      is_demand = record {
        hows = record { sender = hows.sender; receiver = hows.receiver; time = hows.time; number = hows.number; needs = hows.needs };
        addresses = record { sender = addresses.sender; receiver = addresses.receiver; no_sender = addresses.no_sender; no_receiver = addresses.no_receiver };
        numbers = record { no_time = numbers.no_time; no_number = λ zero. absurd (demanded d.how_number is.how_number zero); reserved = numbers.reserved };
      };
      how_number = is.how_number;
      number = fits;
    }

equal : (a b : ℕ) → nat_eq a b ≡ true → a ≡ b
equal a b e = eqb-true a b e

asked : (how : ℕ) (t : Bool) → (how ≡ 2) ⊎ (how ≡ 3) → (nat_eq how 0 || t) ≡ true → t ≡ true
asked how t (inl e) met = let is : (nat_eq how 0 || t) ≡ t = rw e refl in sym is ∙ met
asked how t (inr e) met = let is : (nat_eq how 0 || t) ≡ t = rw e refl in sym is ∙ met

absent : (how : ℕ) (t : Bool) → (how ≡ 2) ⊎ (how ≡ 3) → (not (nat_eq how 2) && (not (nat_eq how 3) || t)) ≡ true → t ≡ true
absent how t (inl e) met = let is : (not (nat_eq how 2) && (not (nat_eq how 3) || t)) ≡ false = rw e refl in absurd (let wrong : false ≡ true = sym is ∙ met in cc)
absent how t (inr e) met = let is : (not (nat_eq how 2) && (not (nat_eq how 3) || t)) ≡ t = rw e refl in sym is ∙ met

number_came : (d : KrbDemand) (seq : Option ℕ) → (d.how_number ≡ 2) ⊎ (d.how_number ≡ 3) → number_meets d seq ≡ true → unwrap_or seq 0 ≡ d.number
number_came d None how met = sym (equal d.number 0 (absent d.how_number (nat_eq d.number 0) how met))
number_came d (Some n) how met = equal n d.number (asked d.how_number (nat_eq n d.number) how met)

came_of : (o : OpenerState) (d : KrbDemand) (now : ℕ) (x : Authenticity) (b : Body) → (d.how_number ≡ 2) ⊎ (d.how_number ≡ 3) → AsDemanded d now x (Ok b) → unwrap_or b.seq 0 ≡ d.number
came_of o d now (Err r) b how as_demanded = absurd cc
came_of o d now (Ok a) b how as_demanded =
    let met = met_all (demand_checks d now a) (GivesBody a) b as_demanded in
    ap (λ (z : Body). unwrap_or z.seq 0) (same_body b a met.1) ∙ number_came d a.seq how met.0.1.1.1.0

-- what was opened carried the number that was demanded
pub opened_number : (h : Option OpenerState) (d : KrbDemand) (now : ℕ) (frame user : List ℕ) (told : KrbCarried) → IsPeerDemand d → GivesTo (Some h) d now frame user told → told.number ≡ d.number
opened_number None d now frame user told is gives = absurd gives
opened_number (Some o) d now frame user told is (b, (x, authentic, as_demanded), user_is, told_is) =
    ap (λ (z : KrbCarried). z.number) told_is ∙ came_of o d now x b is.how_number as_demanded

-- its reserved fields are zeros
pub expects_nothing : (told : KrbSession) (d : KrbDemand) → IsExpect (peer_expect told d)
expects_nothing told d = All-replicate (λ (n : ℕ). n ≡ 0) 4 0 refl
