-- From the checks of a demand to the outcome of opening with it.
use Rattle.std.proofs.Common.{◌≡◌, ℕ, List, [], ◌∷◌, Bool, true, false, Result, Ok, Err, Some, refl, sym, ap, subst, ◌∙◌, inl, inr}
use Rattle.std.specs.Prelude.{◌&&◌, IsErrAnd}
use Rattle.krb_der.specs.declared.body.Body.{Body}
use Rattle.krb_seal.specs.declared.refusal.Refusal.{Refusal}
use Rattle.krb_seal.specs.declared.refusal.Refusal.TheVariants.{BadAddr, BadOrder, Memory, Modified, Skew}
use Rattle.krb_seal.specs.Opens.{OpenerState}
use Rattle.krb_seal.specs.Authentic.{Authenticity, Authenticates, GivesBody}
use Rattle.krb_seal.specs.Unseals.{OrMemory, first_unmet, refusal_of}
use Rattle.krb_seal.proofs.Checking.{not_passed, all_passed}
use Rattle.krb_structs.specs.declared.demand.KrbDemand.{KrbDemand}
use Rattle.krb_structs.specs.declared.carried.KrbCarried.{KrbCarried}
use Rattle.krb_structs.specs.Carried.{carried_of}
use Rattle.krb_structs.specs.Demand.{AsDemanded, MeetsAllButNumber, OpensWith, all_have_room, demand_checks, needs_meet, number_meets, receiver_meets, sender_meets, time_meets}
use Rattle.krb_structs.specs.Opening.{Misorders}

goes_on : (o : OpenerState) (d : KrbDemand) (now : ℕ) (frame : List ℕ) (made : Authenticity) (b : Body) (result : Authenticity)
    → Authenticates o frame made → made ≡ Ok b → OrMemory (AsDemanded d now (Ok b)) result → OrMemory (OpensWith o d now frame) result
goes_on o d now frame made b result h is (inl p) = inl p
goes_on o d now frame made b result h is (inr p) = inr (made, h, subst (λ (z : Authenticity). AsDemanded d now z result) (sym is) p)

pub demand_unmet : {A : Type 0} (o : OpenerState) (d : KrbDemand) (now : ℕ) (frame : List ℕ) (made : Authenticity) (b : Body) (checked : Result A Refusal) (r : Refusal) (result : Authenticity)
    → OrMemory (Authenticates o frame) made → made ≡ Ok b → first_unmet (demand_checks d now b) ≡ refusal_of checked → checked ≡ Err r → IsErrAnd result (λ e. e ≡ r)
    → OrMemory (OpensWith o d now frame) result
demand_unmet o d now frame made b checked r result (inl h) is unmet was e = absurd (let x : Ok b ≡ Err Memory = sym is ∙ h in cc)
demand_unmet o d now frame made b checked r result (inr h) is unmet was e =
    goes_on o d now frame made b result h is (inr (not_passed (demand_checks d now b) (GivesBody b) checked r result unmet was e))

pub demand_met : {A : Type 0} (o : OpenerState) (d : KrbDemand) (now : ℕ) (frame : List ℕ) (made : Authenticity) (b : Body) (checked : Result A Refusal) (x : A)
    → OrMemory (Authenticates o frame) made → made ≡ Ok b → first_unmet (demand_checks d now b) ≡ refusal_of checked → checked ≡ Ok x
    → OrMemory (OpensWith o d now frame) (Ok b)
demand_met o d now frame made b checked x (inl h) is met was = absurd (let y : Ok b ≡ Err Memory = sym is ∙ h in cc)
demand_met o d now frame made b checked x (inr h) is met was =
    goes_on o d now frame made b (Ok b) h is (all_passed (demand_checks d now b) (GivesBody b) checked x (Ok b) met was (inr refl))

-- ---- refused for the number alone

number_unmet : (room addresses time number needs : Bool) → first_unmet ((room, BadAddr) ∷ (addresses, BadAddr) ∷ (time, Skew) ∷ (number, BadOrder) ∷ (needs, Modified) ∷ []) ≡ Some BadOrder
    → (room ≡ true) × (addresses ≡ true) × (time ≡ true) × (number ≡ false)
number_unmet false addresses time number needs e = absurd cc
number_unmet true false time number needs e = absurd cc
number_unmet true true false number needs e = absurd cc
number_unmet true true true true false e = absurd cc
number_unmet true true true true true e = absurd cc
number_unmet true true true false needs e = (refl, refl, refl, refl)

but_number : {A : Type 0} (d : KrbDemand) (now : ℕ) (b : Body) (checked : Result A Refusal) → first_unmet (demand_checks d now b) ≡ refusal_of checked → checked ≡ Err BadOrder → MeetsAllButNumber d now b
but_number d now b checked unmet was =
    let met = number_unmet (all_have_room b.s_addr b.r_addr) (sender_meets d b.s_addr && receiver_meets d b.r_addr) (time_meets d now b) (number_meets d b.seq) (needs_meet d b) (unmet ∙ ap refusal_of was) in
    record { room = met.0; addresses = met.1; time = met.2; number = met.3 }

pub misorders : {A : Type 0} (o : OpenerState) (d : KrbDemand) (now : ℕ) (frame : List ℕ) (made : Authenticity) (b : Body) (checked : Result A Refusal) (told : KrbCarried)
    → OrMemory (Authenticates o frame) made → made ≡ Ok b → first_unmet (demand_checks d now b) ≡ refusal_of checked → checked ≡ Err BadOrder → told ≡ carried_of b → Misorders o d now frame told
misorders o d now frame made b checked told (inl h) is unmet was tells = absurd (let x : Ok b ≡ Err Memory = sym is ∙ h in cc)
misorders o d now frame made b checked told (inr h) is unmet was tells =
    (b, subst (λ (z : Authenticity). Authenticates o frame z) is h, but_number d now b checked unmet was, tells)

pub same_fault : (q r : Refusal) → ◌≡◌ {A = Authenticity} (Err q) (Err r) → q ≡ r
same_fault q r e = cc
