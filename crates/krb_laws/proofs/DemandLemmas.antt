-- Demands that are met, field by field.
use Rattle.std.proofs.Common.{◌≡◌, ◌≢◌, ◌⊎◌, ◌≤◌, ◌*◌, ℕ, zero, suc, inl, inr, arith, Bool, true, false, List, Option, Some, None, Ok, Err, length, refl, sym, ap, ap₂, subst, ◌∙◌}
use Rattle.std.specs.Prelude.{◌&&◌, ◌||◌, not, nat_eq, is_some}
use Rattle.std.specs.Int.{abs_diff}
use Rattle.std.specs.Ordering.{int_eq}
use Rattle.std.specs.Str.{bytes_eq}
use Rattle.std.proofs.lemmas.Bool.{and_from, and_parts, eq-eqb, eqb-true, le-leb, leb-true}
use Rattle.std.proofs.lemmas.Bool.Decides.{Decides-int_eq}
use Rattle.std.proofs.lemmas.Slice.Eq.{bytes_eq-Decides}
use Rattle.krb_der.specs.declared.address.HostAddress.{HostAddress}
use Rattle.krb_der.specs.declared.body.Body.{Body}
use Rattle.krb_der.specs.Address.{same_address}
use Rattle.krb_der.specs.Moment.{micros_per_second, moment_of}
use Rattle.krb_seal.specs.Authentic.{Authenticity, Authenticates, GivesBody}
use Rattle.krb_seal.specs.Opens.{OpenerState, opener_of}
use Rattle.krb_seal.specs.Seals.{body_of}
use Rattle.krb_seal.proofs.Authentics.{sealed_is_authentic}
use Rattle.krb_seal.proofs.Outcomes.{one_authenticity}
use Rattle.krb_seal.proofs.SealedFrames.{all_met, met_all}
use Rattle.krb_structs.specs.declared.demand.KrbDemand.{KrbDemand}
use Rattle.krb_structs.specs.Demand.{AreShort, AsDemanded, all_have_room, demand_checks, has_room, is_near, is_within, needs_meet, number_meets, receiver_meets, sender_meets, tells_time, time_meets}
use Rattle.krb_structs.specs.Session.{address_of, address_room}
use Rattle.krb_laws.specs.Demands.{MeetsFields, DemandsMean, OpensAtItsNumberAlone}

-- ---- one field

-- what isn't ignored is compared
asked : (how : ℕ) (test : Bool) → (nat_eq how 0 || test) ≡ true → how ≢ 0 → test ≡ true
asked how test met asks = by_test (nat_eq how 0) refl met
  where
    by_test : (b : Bool) → nat_eq how 0 ≡ b → (b || test) ≡ true → test ≡ true
    by_test true is met = absurd (asks (eqb-true how 0 is))
    by_test false is met = met

host_is : (a b : HostAddress) → same_address a b ≡ true → a ≡ b
host_is a b same =
    let both = and_parts (int_eq a.kind b.kind) (bytes_eq a.bytes b.bytes) same in
    ap₂ (λ k l. let host : HostAddress = record { kind = k; bytes = l } in host) ((Decides-int_eq a.kind b.kind).0 both.0) ((bytes_eq-Decides a.bytes b.bytes).0 both.1)

receiver_is : (d : KrbDemand) (r : Option HostAddress) → receiver_meets d r ≡ true → d.how_receiver ≢ 0 → (a : HostAddress) → r ≡ Some a → a ≡ address_of d.receiver
receiver_is d None met asks a is = absurd (let e : ◌≡◌ {A = Option HostAddress} None (Some a) = is in cc)
receiver_is d (Some x) met asks a is =
    let same : x ≡ a = (let e : Some x ≡ Some a = is in cc) in
    sym same ∙ host_is x (address_of d.receiver) (asked d.how_receiver (same_address x (address_of d.receiver)) met asks)

receiver_there : (d : KrbDemand) (r : Option HostAddress) → receiver_meets d r ≡ true → d.how_receiver ≡ 2 → is_some r ≡ true
receiver_there d None met two =
    let none : not (nat_eq 2 2) ≡ true = subst (λ n. not (nat_eq n 2) ≡ true) two met in
    absurd (let e : false ≡ true = none in cc)
receiver_there d (Some x) met two = refl

time_is : (d : KrbDemand) (now : ℕ) (b : Body) → time_meets d now b ≡ true → d.how_time ≢ 0 → (secs usec : ℕ) → b.time ≡ Some secs → b.usec ≡ Some usec
    → abs_diff now (moment_of secs usec) ≤ micros_per_second * d.skew
time_is d now b met asks secs usec told exact =
    let within : is_within d now b.time b.usec ≡ true = asked d.how_time (is_within d now b.time b.usec) met asks in
    let its : is_within d now (Some secs) (Some usec) ≡ true = subst (λ t. is_within d now t (Some usec) ≡ true) told (subst (λ u. is_within d now b.time u ≡ true) exact within) in
    leb-true (abs_diff now (moment_of secs usec)) (micros_per_second * d.skew) its

time_second : (d : KrbDemand) (now : ℕ) (b : Body) → time_meets d now b ≡ true → d.how_time ≢ 0 → (secs : ℕ) → b.time ≡ Some secs → b.usec ≡ None
    → (d.how_time ≡ 3) × (abs_diff now (moment_of secs 0) ≤ micros_per_second * d.skew)
time_second d now b met asks secs told absent =
    let within : is_within d now b.time b.usec ≡ true = asked d.how_time (is_within d now b.time b.usec) met asks in
    let its : is_within d now (Some secs) None ≡ true = subst (λ t. is_within d now t None ≡ true) told (subst (λ u. is_within d now b.time u ≡ true) absent within) in
    let both = and_parts (nat_eq d.how_time 3) (is_near d now (moment_of secs 0)) its in
    (eqb-true d.how_time 3 both.0, leb-true (abs_diff now (moment_of secs 0)) (micros_per_second * d.skew) both.1)

time_there : (d : KrbDemand) (now : ℕ) (t u : Option ℕ) → is_within d now t u ≡ true → 2 ≤ d.how_time → is_some t ≡ true
time_there d now (Some secs) u within two = refl
time_there d now None None within two = absurd (let few = leb-true d.how_time 1 within in omega (arith, few, two))
time_there d now None (Some usec) within two = absurd (let e : false ≡ true = within in cc)

second_there : (d : KrbDemand) (now : ℕ) (t u : Option ℕ) → is_within d now t u ≡ true → is_some u ≡ true → is_some t ≡ true
second_there d now (Some secs) u within told = refl
second_there d now None None within told = absurd (let e : false ≡ true = told in cc)
second_there d now None (Some usec) within told = absurd (let e : false ≡ true = within in cc)

short_there : (s : HostAddress) (r : Option HostAddress) → all_have_room s r ≡ true → AreShort s r
short_there s None room = (leb-true (length s.bytes) address_room room, λ a is. absurd (let e : ◌≡◌ {A = Option HostAddress} None (Some a) = is in cc))
short_there s (Some x) room =
    let both = and_parts (has_room s) (has_room x) room in (
      leb-true (length s.bytes) address_room both.0,
      λ a is. let same : x ≡ a = (let e : Some x ≡ Some a = is in cc) in subst (λ (z : HostAddress). length z.bytes ≤ address_room) same (leb-true (length x.bytes) address_room both.1),
    )

-- one of time and number is told
needed : (d : KrbDemand) (t u s : Option ℕ) → (tells_time d t u || is_some s) ≡ true
    → ((is_some t ≡ true) × ((is_some u ≡ true) ⊎ (d.how_time ≡ 3))) ⊎ (is_some s ≡ true)
needed d (Some secs) (Some usec) s tells = inl (refl, inl refl)
needed d (Some secs) None s tells = by_test (nat_eq d.how_time 3) refl tells
  where
    by_test : (t : Bool) → nat_eq d.how_time 3 ≡ t → (t || is_some s) ≡ true
        → ((is_some (Some secs) ≡ true) × ((is_some (let none : Option ℕ = None in none) ≡ true) ⊎ (d.how_time ≡ 3))) ⊎ (is_some s ≡ true)
    by_test true is tells = inl (refl, inr (eqb-true d.how_time 3 is))
    by_test false is tells = inr tells
needed d None None s tells = inr tells
needed d None (Some usec) s tells = inr tells

not_ignored : (how : ℕ) → 2 ≤ how → how ≢ 0
not_ignored how two none = omega (arith, two, none)

number_is : (d : KrbDemand) (s : Option ℕ) → number_meets d s ≡ true → d.how_number ≢ 0 → (n : ℕ) → s ≡ Some n → n ≡ d.number
number_is d None met asks n is = absurd (let e : ◌≡◌ {A = Option ℕ} None (Some n) = is in cc)
number_is d (Some m) met asks n is =
    let same : m ≡ n = (let e : Some m ≡ Some n = is in cc) in
    sym same ∙ eqb-true m d.number (asked d.how_number (nat_eq m d.number) met asks)

number_there : (d : KrbDemand) (s : Option ℕ) → number_meets d s ≡ true → d.how_number ≡ 2 → is_some s ≡ true
number_there d None met two =
    let none : (not (nat_eq 2 2) && (not (nat_eq 2 3) || nat_eq d.number 0)) ≡ true = subst (λ n. (not (nat_eq n 2) && (not (nat_eq n 3) || nat_eq d.number 0)) ≡ true) two met in
    absurd (let e : false ≡ true = none in cc)
number_there d (Some m) met two = refl

absent : (d : KrbDemand) (s : Option ℕ) → number_meets d s ≡ true → d.how_number ≡ 3 → s ≡ None → d.number ≡ 0
absent d None met three is =
    let none : (not (nat_eq 3 2) && (not (nat_eq 3 3) || nat_eq d.number 0)) ≡ true = subst (λ n. (not (nat_eq n 2) && (not (nat_eq n 3) || nat_eq d.number 0)) ≡ true) three met in
    eqb-true d.number 0 none
absent d (Some m) met three is = absurd (let e : ◌≡◌ {A = Option ℕ} (Some m) None = is in cc)

-- ---- and back, one field

unless_ignored : (how : ℕ) (test : Bool) → (how ≢ 0 → test ≡ true) → (nat_eq how 0 || test) ≡ true
unless_ignored how test asked_of = by_test (nat_eq how 0) refl
  where
    by_test : (b : Bool) → nat_eq how 0 ≡ b → (b || test) ≡ true
    by_test true is = refl
    by_test false is = asked_of (λ none. let e : true ≡ false = sym (eq-eqb how 0 none) ∙ is in cc)

differs : (m n : ℕ) → m ≢ n → not (nat_eq m n) ≡ true
differs m n other = by_test (nat_eq m n) refl
  where
    by_test : (b : Bool) → nat_eq m n ≡ b → not b ≡ true
    by_test true is = absurd (other (eqb-true m n is))
    by_test false is = refl

host_same : (a b : HostAddress) → a ≡ b → same_address a b ≡ true
host_same a b is = and_from (int_eq a.kind b.kind) (bytes_eq a.bytes b.bytes) ((Decides-int_eq a.kind b.kind).1 (ap (λ (h : HostAddress). h.kind) is)) ((bytes_eq-Decides a.bytes b.bytes).1 (ap (λ (h : HostAddress). h.bytes) is))

room_from : (s : HostAddress) (r : Option HostAddress) → AreShort s r → all_have_room s r ≡ true
room_from s None short = le-leb (length s.bytes) address_room short.0
room_from s (Some x) short = and_from (has_room s) (has_room x) (le-leb (length s.bytes) address_room short.0) (le-leb (length x.bytes) address_room (short.1 x refl))

receiver_from : (d : KrbDemand) (r : Option HostAddress) → (d.how_receiver ≢ 0 → (a : HostAddress) → r ≡ Some a → a ≡ address_of d.receiver)
    → (d.how_receiver ≡ 2 → is_some r ≡ true) → receiver_meets d r ≡ true
receiver_from d None is told = differs d.how_receiver 2 (λ two. let e : false ≡ true = told two in cc)
receiver_from d (Some x) is told = unless_ignored d.how_receiver (same_address x (address_of d.receiver)) (λ asks. host_same x (address_of d.receiver) (is asks x refl))

at_most_one : (how : ℕ) → (2 ≤ how → ⊥) → how ≤ 1
at_most_one zero few = omega arith
at_most_one (suc zero) few = omega arith
at_most_one (suc (suc n)) few = absurd (few (omega arith))

within_from : (d : KrbDemand) (now : ℕ) (t u : Option ℕ)
    → ((secs usec : ℕ) → t ≡ Some secs → u ≡ Some usec → abs_diff now (moment_of secs usec) ≤ micros_per_second * d.skew)
    → ((secs : ℕ) → t ≡ Some secs → u ≡ None → (d.how_time ≡ 3) × (abs_diff now (moment_of secs 0) ≤ micros_per_second * d.skew))
    → (2 ≤ d.how_time → is_some t ≡ true) → (is_some u ≡ true → is_some t ≡ true) → is_within d now t u ≡ true
within_from d now (Some secs) (Some usec) near of_second told second = le-leb (abs_diff now (moment_of secs usec)) (micros_per_second * d.skew) (near secs usec refl refl)
within_from d now (Some secs) None near of_second told second =
    let w = of_second secs refl refl in
    and_from (nat_eq d.how_time 3) (is_near d now (moment_of secs 0)) (eq-eqb d.how_time 3 w.0) (le-leb (abs_diff now (moment_of secs 0)) (micros_per_second * d.skew) w.1)
within_from d now None None near of_second told second = le-leb d.how_time 1 (at_most_one d.how_time (λ two. let e : false ≡ true = told two in cc))
within_from d now None (Some usec) near of_second told second = absurd (let e : false ≡ true = second refl in cc)

number_from : (d : KrbDemand) (s : Option ℕ) → (d.how_number ≢ 0 → (n : ℕ) → s ≡ Some n → n ≡ d.number) → (d.how_number ≡ 2 → is_some s ≡ true)
    → (d.how_number ≡ 3 → s ≡ None → d.number ≡ 0) → number_meets d s ≡ true
number_from d None is told none =
    and_from (not (nat_eq d.how_number 2)) (not (nat_eq d.how_number 3) || nat_eq d.number 0) (differs d.how_number 2 (λ two. let e : false ≡ true = told two in cc)) (by_test (nat_eq d.how_number 3) refl)
  where
    by_test : (b : Bool) → nat_eq d.how_number 3 ≡ b → (not b || nat_eq d.number 0) ≡ true
    by_test true at = eq-eqb d.number 0 (none (eqb-true d.how_number 3 at) refl)
    by_test false at = refl
number_from d (Some m) is told none = unless_ignored d.how_number (nat_eq m d.number) (λ asks. eq-eqb m d.number (is asks m refl))

either_tells : (d : KrbDemand) (t u s : Option ℕ)
    → ((is_some t ≡ true) × ((is_some u ≡ true) ⊎ (d.how_time ≡ 3))) ⊎ (is_some s ≡ true)
    → (tells_time d t u || is_some s) ≡ true
either_tells d t u s tells = elim tells [ inl time ↦ left (tells_time d t u) (is_some s) (by_time t u time.0 time.1) | inr number ↦ right (tells_time d t u) (is_some s) number ]
  where
    left : (a b : Bool) → a ≡ true → (a || b) ≡ true
    left true b is = refl
    left false b is = absurd (let e : false ≡ true = is in cc)

    right : (a b : Bool) → b ≡ true → (a || b) ≡ true
    right true b is = refl
    right false b is = is

    by_time : (x y : Option ℕ) → is_some x ≡ true → (is_some y ≡ true) ⊎ (d.how_time ≡ 3) → tells_time d x y ≡ true
    by_time (Some secs) (Some usec) there micros = refl
    by_time (Some secs) None there micros = elim micros [ inl told ↦ absurd (let e : false ≡ true = told in cc) | inr three ↦ eq-eqb d.how_time 3 three ]
    by_time None y there micros = absurd (let e : false ≡ true = there in cc)

-- ---- all of them

same_body : (a b : Body) → ◌≡◌ {A = Authenticity} (Ok a) (Ok b) → a ≡ b
same_body a b e = cc

fields_of : (d : KrbDemand) (now : ℕ) (a b : Body) → AsDemanded d now (Ok a) (Ok b) → (b ≡ a) × MeetsFields d now a
fields_of d now a b as_demanded =
    let met = met_all (demand_checks d now a) (GivesBody a) b as_demanded in
    let addresses = and_parts (sender_meets d a.s_addr) (receiver_meets d a.r_addr) met.0.1.0 in
    let time : time_meets d now a ≡ true = met.0.1.1.0 in
    let number : number_meets d a.seq ≡ true = met.0.1.1.1.0 in
    let needs : needs_meet d a ≡ true = met.0.1.1.1.1.0 in (
      same_body b a met.1,
      record {
        short = short_there a.s_addr a.r_addr met.0.0;
        sender = λ asks. host_is a.s_addr (address_of d.sender) (asked d.how_sender (same_address a.s_addr (address_of d.sender)) addresses.0 asks);
        receiver = receiver_is d a.r_addr addresses.1;
        receiver_told = receiver_there d a.r_addr addresses.1;
        time = time_is d now a time;
        time_of_second = time_second d now a time;
        time_told = λ two. time_there d now a.time a.usec (asked d.how_time (is_within d now a.time a.usec) time (not_ignored d.how_time two)) two;
        second_told = λ asks. second_there d now a.time a.usec (asked d.how_time (is_within d now a.time a.usec) time asks);
        number = number_is d a.seq number;
        number_told = number_there d a.seq number;
        absent_is_0 = absent d a.seq number;
        needs = λ asks. needed d a.time a.usec a.seq (asked d.needs_time_or_number (tells_time d a.time a.usec || is_some a.seq) needs asks);
      },
    )

opened_with : (o : OpenerState) (d : KrbDemand) (now : ℕ) (frame : List ℕ) (b : Body) (x : Authenticity) → Authenticates o frame x → AsDemanded d now x (Ok b) → Authenticates o frame (Ok b) × MeetsFields d now b
opened_with o d now frame b (Ok a) authentic as_demanded =
    let its = fields_of d now a b as_demanded in
    (subst (λ (z : Body). Authenticates o frame (Ok z)) (sym its.0) authentic, subst (λ (z : Body). MeetsFields d now z) (sym its.0) its.1)
opened_with o d now frame b (Err r) authentic as_demanded = absurd (let e : ◌≡◌ {A = Authenticity} (Ok b) (Err r) = as_demanded in cc)

as_fields : (d : KrbDemand) (now : ℕ) (b : Body) → MeetsFields d now b → AsDemanded d now (Ok b) (Ok b)
as_fields d now b fields =
    let addresses =
    and_from (sender_meets d b.s_addr) (receiver_meets d b.r_addr) (unless_ignored d.how_sender (same_address b.s_addr (address_of d.sender)) (λ asks. host_same b.s_addr (address_of d.sender) (fields.sender asks)))
    (receiver_from d b.r_addr fields.receiver fields.receiver_told) in
    let time = unless_ignored d.how_time (is_within d now b.time b.usec) (λ asks. within_from d now b.time b.usec (fields.time asks) (fields.time_of_second asks) fields.time_told (fields.second_told asks)) in
    let number = number_from d b.seq fields.number fields.number_told fields.absent_is_0 in
    let needs = unless_ignored d.needs_time_or_number (tells_time d b.time b.usec || is_some b.seq) (λ asks. either_tells d b.time b.usec b.seq (fields.needs asks)) in
    all_met (demand_checks d now b) (GivesBody b) (Ok b) (room_from b.s_addr b.r_addr fields.short, (addresses, (time, (number, (needs, tt))))) refl

pub demands_mean : DemandsMean
demands_mean o d now frame b = (
  λ opens. opened_with o d now frame b opens.0 opens.1 opens.2,
  λ its. (Ok b, its.0, as_fields d now b its.1),
)

pub at_its_number_alone : OpensAtItsNumberAlone
at_its_number_alone etype key s x d q at now user conf frame b seals mode how opens =
    let o : OpenerState = opener_of etype key x in
    let its = (demands_mean o d now frame b).0 opens in
    let body : Body = body_of s q user at in
    let same : b ≡ body = same_body b body (one_authenticity o frame (Ok b) (Ok body) its.0 (sealed_is_authentic etype key s x q at user conf frame seals mode)) in
    (sym ((its.1).number how q (ap (λ (z : Body). z.seq) same)), same)
