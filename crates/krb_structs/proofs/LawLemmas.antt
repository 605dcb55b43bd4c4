-- Demands that say all are the checks of a body.
use Rattle.std.proofs.Common.{◌≡◌, ◌≤◌, ℕ, Bool, true, false, List, [], ◌∷◌, length, take, Option, Some, None, Result, Ok, Err, refl, sym, ap, ◌∙◌, arith, ◌*◌, length-take}
use Rattle.std.specs.Prelude.{is_some, ◌&&◌, ◌||◌, not, nat_eq, nat_le}
use Rattle.std.specs.Str.{bytes_eq}
use Rattle.std.specs.Ordering.{int_eq}
use Rattle.std.proofs.lemmas.Bool.{le-leb}
use Rattle.std.proofs.lemmas.Slice.Eq.{bytes_eq-Decides}
use Rattle.krb_der.specs.Moment.{micros_per_second, moment_of}
use Rattle.krb_structs.specs.declared.session.KrbAddress.{KrbAddress}
use Rattle.krb_der.specs.declared.address.HostAddress.{HostAddress}
use Rattle.krb_der.specs.declared.body.Body.{Body}
use Rattle.krb_der.specs.Address.{same_address}
use Rattle.krb_seal.specs.declared.refusal.Refusal.{Refusal}
use Rattle.krb_seal.specs.declared.session.Expect.{Expect}
use Rattle.krb_seal.specs.Opens.{OpenerState, Opens, Passes, body_checks, is_current, is_number, receiver_fits}
use Rattle.std.specs.Int.{abs_diff}
use Rattle.krb_seal.specs.OpensParts.{Outcome, Checks}
use Rattle.krb_seal.specs.Authentic.{Authenticity, Authenticates, GivesBody}
use Rattle.krb_seal.specs.Laws.{OpensTheAuthentic}
use Rattle.krb_structs.specs.declared.demand.KrbDemand.{KrbDemand}
use Rattle.krb_structs.specs.Demand.{AsDemanded, IsDemand, OpensWith, all_have_room, demand_checks, has_room, is_within, needs_meet, number_meets, receiver_meets, sender_meets, tells_time, time_meets}
use Rattle.krb_structs.specs.Session.{address_of, address_room}
use Rattle.krb_structs.specs.Laws.{DemandedIsUnsealed, Demands, how_of}

-- ---- lists of checks

abbrev pub AllMet : Checks → Type 0
AllMet [] = Unit {0}
AllMet ((test, r) ∷ rest) = (test ≡ true) × AllMet rest

pub met_all : {A : Type 0} (checks : Checks) (Then : Result A Refusal → Type 0) (x : A) → Passes checks Then (Ok x) → AllMet checks × Then (Ok x)
met_all [] Then x p = (tt, p)
met_all ((true, r) ∷ rest) Then x p = let later = met_all rest Then x p in ((refl, later.0), later.1)
met_all ((false, r) ∷ rest) Then x p = absurd cc

passes_all : {A : Type 0} (checks : Checks) (Then : Result A Refusal → Type 0) (x : A) → AllMet checks → Then (Ok x) → Passes checks Then (Ok x)
passes_all [] Then x met p = p
passes_all ((true, r) ∷ rest) Then x met p = passes_all rest Then x met.1 p
passes_all ((false, r) ∷ rest) Then x met p = absurd (let e : false ≡ true = met.0 in cc)

pub same_body : (a b : Body) → ◌≡◌ {A = Authenticity} (Ok a) (Ok b) → a ≡ b
same_body a b e = cc

same_data : (a b : List ℕ) → ◌≡◌ {A = Outcome} (Ok a) (Ok b) → a ≡ b
same_data a b e = cc

-- ---- tests

both : (a b : Bool) → (a && b) ≡ true → (a ≡ true) × (b ≡ true)
both true b h = (refl, h)
both false b h = absurd cc

and_true : (a b : Bool) → a ≡ true → b ≡ true → (a && b) ≡ true
and_true true b p q = q
and_true false b p q = absurd cc

-- what is demanded isn't ignored
asked : (how : ℕ) (required t : Bool) → how ≡ how_of required → (nat_eq how 0 || t) ≡ t
asked how true t e = rw e refl
asked how false t e = rw e refl

absent : (how : ℕ) (required : Bool) → how ≡ how_of required → not (nat_eq how 2) ≡ not required
absent how true e = rw e refl
absent how false e = rw e refl

untold : (how : ℕ) (required : Bool) → how ≡ how_of required → nat_le how 1 ≡ not required
untold how true e = rw e refl
untold how false e = rw e refl

-- whole seconds aren't demanded
no_seconds : (how : ℕ) (required t : Bool) → how ≡ how_of required → (nat_eq how 3 && t) ≡ false
no_seconds how true t e = rw e refl
no_seconds how false t e = rw e refl

sender_same : (d : KrbDemand) (x : Expect) (a : HostAddress) → d.how_sender ≡ 2 → address_of d.sender ≡ x.s_addr → sender_meets d a ≡ same_address a x.s_addr
sender_same d x a how is = asked d.how_sender true (same_address a (address_of d.sender)) how ∙ ap (λ (e : HostAddress). same_address a e) is

receiver_same : (d : KrbDemand) (x : Expect) (a : Option HostAddress) → d.how_receiver ≡ how_of x.require_r → address_of d.receiver ≡ x.r_addr → receiver_meets d a ≡ receiver_fits x a
receiver_same d x None how is = absent d.how_receiver x.require_r how
receiver_same d x (Some a) how is = asked d.how_receiver x.require_r (same_address a (address_of d.receiver)) how ∙ ap (λ (e : HostAddress). same_address a e) is

within_same : (d : KrbDemand) (x : Expect) (now : ℕ) (secs usec : Option ℕ) → d.how_time ≡ how_of x.expect_time → d.skew ≡ x.skew → is_within d now secs usec ≡ is_current x now secs usec
within_same d x now (Some s) (Some u) how is = ap (λ (k : ℕ). nat_le (abs_diff now (moment_of s u)) (micros_per_second * k)) is
within_same d x now None None how is = untold d.how_time x.expect_time how
within_same d x now (Some s) None how is = no_seconds d.how_time x.expect_time (nat_le (abs_diff now (moment_of s 0)) (micros_per_second * d.skew)) how
within_same d x now None (Some u) how is = refl

number_same : (d : KrbDemand) (n : ℕ) (seq : Option ℕ) → d.how_number ≡ 2 → d.number ≡ n → number_meets d seq ≡ is_number n seq
number_same d n None how is = rw how refl
number_same d n (Some q) how is = asked d.how_number true (nat_eq q d.number) how ∙ ap (λ (k : ℕ). nat_eq q k) is

-- a number that is the demanded one is told
told_number : (n : ℕ) (seq : Option ℕ) → is_number n seq ≡ true → is_some seq ≡ true
told_number n None h = absurd cc
told_number n (Some q) h = refl

or_true : (a b : Bool) → b ≡ true → (a || b) ≡ true
or_true true b h = refl
or_true false b h = h

needs_met : (d : KrbDemand) (n : ℕ) (b : Body) → is_number n b.seq ≡ true → needs_meet d b ≡ true
needs_met d n b h =
    let number = told_number n b.seq h in
    or_true (nat_eq d.needs_time_or_number 0) (tells_time d b.time b.usec || is_some b.seq) (or_true (tells_time d b.time b.usec) (is_some b.seq) number)

-- ---- an address that is the one of a demand has room

room_of : (a e : HostAddress) → length e.bytes ≤ address_room → same_address a e ≡ true → has_room a ≡ true
room_of a e short same =
    let bytes = (both (int_eq a.kind e.kind) (bytes_eq a.bytes e.bytes) same).1 in
    let is : length a.bytes ≡ length e.bytes = ap length ((bytes_eq-Decides a.bytes e.bytes).0 bytes) in
    le-leb (length a.bytes) address_room (omega arith)

short_of : (a : KrbAddress) → a.len ≤ address_room → length (take a.len a.bytes) ≤ address_room
short_of a small = omega (arith, length-take a.len a.bytes)

all_room : (d : KrbDemand) (x : Expect) (s : HostAddress) (r : Option HostAddress) → IsDemand d → address_of d.sender ≡ x.s_addr → address_of d.receiver ≡ x.r_addr
    → same_address s x.s_addr ≡ true → receiver_fits x r ≡ true → all_have_room s r ≡ true
all_room d x s None is sender receiver one two = room_of s (address_of d.sender) (short_of d.sender is.addresses.sender) (ap (λ (e : HostAddress). same_address s e) sender ∙ one)
all_room d x s (Some a) is sender receiver one two =
    and_true (has_room s) (has_room a) (room_of s (address_of d.sender) (short_of d.sender is.addresses.sender) (ap (λ (e : HostAddress). same_address s e) sender ∙ one))
    (room_of a (address_of d.receiver) (short_of d.receiver is.addresses.receiver) (ap (λ (e : HostAddress). same_address a e) receiver ∙ two))

-- ---- a body meets the one where it meets the other

time_same : (d : KrbDemand) (x : Expect) (now : ℕ) (b : Body) → d.how_time ≡ how_of x.expect_time → d.skew ≡ x.skew → time_meets d now b ≡ is_current x now b.time b.usec
time_same d x now b how is = asked d.how_time x.expect_time (is_within d now b.time b.usec) how ∙ within_same d x now b.time b.usec how is

to_body : (d : KrbDemand) (x : Expect) (n now : ℕ) (b : Body) → Demands d x n → AllMet (demand_checks d now b) → AllMet (body_checks x n now b)
to_body d x n now b h met =
    let addresses = both (sender_meets d b.s_addr) (receiver_meets d b.r_addr) met.1.0 in
    let sender = sym (sender_same d x b.s_addr h.how_sender h.sender) ∙ addresses.0 in
    let receiver = sym (receiver_same d x b.r_addr h.how_receiver h.receiver) ∙ addresses.1 in
    let time = sym (time_same d x now b h.how_time h.skew) ∙ met.1.1.0 in
    let number = sym (number_same d n b.seq h.how_number h.number) ∙ met.1.1.1.0 in
    (and_true (same_address b.s_addr x.s_addr) (receiver_fits x b.r_addr) sender receiver, (time, (number, tt)))

to_demand : (d : KrbDemand) (x : Expect) (n now : ℕ) (b : Body) → IsDemand d → Demands d x n → AllMet (body_checks x n now b) → AllMet (demand_checks d now b)
to_demand d x n now b is h met =
    let addresses = both (same_address b.s_addr x.s_addr) (receiver_fits x b.r_addr) met.0 in
    let sender = sender_same d x b.s_addr h.how_sender h.sender ∙ addresses.0 in
    let receiver = receiver_same d x b.r_addr h.how_receiver h.receiver ∙ addresses.1 in
    let time = time_same d x now b h.how_time h.skew ∙ met.1.0 in
    let number = number_same d n b.seq h.how_number h.number ∙ met.1.1.0 in
    let room = all_room d x b.s_addr b.r_addr is h.sender h.receiver addresses.0 addresses.1 in
    (room, (and_true (sender_meets d b.s_addr) (receiver_meets d b.r_addr) sender receiver, (time, (number, (needs_met d n b met.1.1.0, tt)))))

-- ---- the law

unsealed : (o : OpenerState) (d : KrbDemand) (n now : ℕ) (frame user : List ℕ) (b : Body) (x : Authenticity) → OpensTheAuthentic → Demands d o.expect n → Authenticates o frame x → AsDemanded d now x (Ok b)
    → user ≡ b.user_data → Opens o n now frame (Ok user)
unsealed o d n now frame user b (Err r) law h authentic as_demanded is = absurd cc
unsealed o d n now frame user b (Ok a) law h authentic as_demanded is =
    let met = met_all (demand_checks d now a) (GivesBody a) b as_demanded in
    let gives : ◌≡◌ {A = Outcome} (Ok user) (Ok a.user_data) = ap Ok (is ∙ ap (λ (z : Body). z.user_data) (same_body b a met.1)) in
    (law o n now frame user).1 (a, authentic, passes_all (body_checks o.expect n now a) (λ y. y ≡ Ok a.user_data) user (to_body d o.expect n now a h met.0) gives)

opened : (o : OpenerState) (d : KrbDemand) (n now : ℕ) (frame user : List ℕ) → OpensTheAuthentic → IsDemand d → Demands d o.expect n → Opens o n now frame (Ok user)
    → (b : Body) × OpensWith o d now frame (Ok b) × (user ≡ b.user_data)
opened o d n now frame user law is h opens =
    let found = (law o n now frame user).0 opens in
    let b : Body = found.0 in
    let met = met_all (body_checks o.expect n now b) (λ y. y ≡ Ok b.user_data) user found.2 in
    (b, (Ok b, found.1, passes_all (demand_checks d now b) (GivesBody b) b (to_demand d o.expect n now b is h met.0) refl), same_data user b.user_data met.1)

pub demanded_is_unsealed : OpensTheAuthentic → DemandedIsUnsealed
demanded_is_unsealed law o d n now frame user is h =
    (λ found. unsealed o d n now frame user found.0 found.1.0 law h found.1.1 found.1.2 found.2, λ opens. opened o d n now frame user law is h opens)
