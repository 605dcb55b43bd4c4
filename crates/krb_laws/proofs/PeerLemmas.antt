-- What peers open, in order.
use Rattle.std.proofs.Common.{◌≡◌, ◌⊎◌, ℕ, zero, suc, ◌+◌, true, List, [], ◌∷◌, ◌++◌, length, map, take, drop, slice_get, Some, Ok, Err, refl, sym, ap, subst, ◌∙◌, inl, inr, arith, append_assoc, length-append}
use Rattle.std.specs.Prelude.{◌||◌, nat_eq}
use Rattle.std.proofs.lemmas.Bool.{eqb-true}
use Rattle.std.proofs.lemmas.List.{take-append-drop}
use Rattle.krb_base.specs.Prefix.{IsPrefix}
use Rattle.krb_der.specs.declared.body.Body.{Body}
use Rattle.krb_seal.specs.declared.refusal.Refusal.TheVariants.{BadAddr}
use Rattle.krb_seal.specs.declared.session.Session.{Session}
use Rattle.krb_seal.specs.Authentic.{Authenticity, Authenticates, GivesBody}
use Rattle.krb_seal.specs.Opens.{OpenerState, opener_of}
use Rattle.krb_seal.specs.Sealer.{SealerState, new_state}
use Rattle.krb_seal.specs.Seals.{Seals, body_of}
use Rattle.krb_seal.proofs.Authentics.{sealed_is_authentic}
use Rattle.krb_seal.proofs.Outcomes.{one_authenticity}
use Rattle.krb_seal.proofs.SealedFrames.{met_all}
use Rattle.krb_peers.proofs.ListLemmas.{drop_get}
use Rattle.krb_structs.specs.declared.demand.KrbDemand.{KrbDemand}
use Rattle.krb_structs.specs.Demand.{AsDemanded, demand_checks, number_meets}
use Rattle.krb_structs.specs.Opening.{Gives, GivesTo}
use Rattle.krb_structs.specs.Peer.{PeerState, peer_expect}
use Rattle.krb_structs.specs.PeerExport.{OneExport}
use Rattle.krb_structs.specs.Session.{expect_of, session_of}
use Rattle.krb_laws.specs.Peers.{PeerEnd, PeerCall, Sealing, Opening, IsPeerAt, IsPeerCall, ArePeerCalls, Hears, IsSealedOf, OpenNoForgery, opened_by, opened_in, sealed_by, sealed_in, sealings_in, ArePeers, TellsApart, OpenOfBoth}
use Rattle.krb_laws.specs.Peers.PeerCall.{Sealed, Opened, Resumed, Failed}
use Rattle.krb_laws.specs.PeerLaws.{PeersBegin, PeerCallsGoOn, PeersKeepNumbers, PeersOpenInOrder, PeersAgree}
use Rattle.krb_laws.proofs.ReflectionLemmas.{peers_refuse}

-- ---- one call

pub begin : PeersBegin
begin e = record { first = e.session.first; is = refl }

pub renumbered : (e : PeerEnd) (n m k l : ℕ) (p : PeerState) → n ≡ m → k ≡ l → IsPeerAt e n k p → IsPeerAt e m l p
renumbered e n m k l p one two at = subst (λ (x : ℕ). IsPeerAt e x l p) one (subst (λ (x : ℕ). IsPeerAt e n x p) two at)

-- the numbers after one call
pub after_call : OneExport → (e : PeerEnd) (p q : PeerState) (call : PeerCall) (n x : ℕ) → IsPeerAt e n x p → IsPeerCall e p call q
    → IsPeerAt e (n + length (sealed_by call)) (x + length (opened_by call)) q
after_call law e p q (Sealed s) n x at is =
    let more = ap (λ (r : PeerState). record r { sealer = record r.sealer { next = r.sealer.next + 1 } }) at.is in
    renumbered e (n + 1) (n + 1) x (x + 0) q refl (omega arith) (record { first = at.first; is = is.1 ∙ more })
after_call law e p q (Opened o) n x at is =
    let more = ap (λ (r : PeerState). record r { demand = record r.demand { number = r.demand.number + 1 } }) at.is in
    renumbered e n (n + 0) (x + 1) (x + 1) q (omega arith) refl (record { first = at.first; is = is.1 ∙ more })
after_call law e p q (Resumed state) n x at is =
    let next = is.1.0 in let expected = is.1.1.0 in
    let same = law state p.sealer.next p.demand.number next expected is.0 is.1.1.1 in
    let its_next : next ≡ n = sym same.0 ∙ ap (λ (r : PeerState). r.sealer.next) at.is in
    let its_number : expected ≡ x = sym same.1 ∙ ap (λ (r : PeerState). r.demand.number) at.is in
    renumbered e next (n + 0) expected (x + 0) q (omega (arith, its_next)) (omega (arith, its_number)) (record { first = next; is = is.1.1.2 })
after_call law e p q Failed n x at is = renumbered e n (n + 0) x (x + 0) q (omega arith) (omega arith) (record { first = at.first; is = is ∙ at.is })

pub calls_go_on : PeerCallsGoOn
calls_go_on e p q r [] more are then = subst (λ (z : PeerState). ArePeerCalls e z more r) are then
calls_go_on e p q r (call ∷ calls) more are then = (are.0, are.1, calls_go_on e are.0 q r calls more are.2 then)

pub keep_numbers : OneExport → PeersKeepNumbers
keep_numbers law e p q [] n x at are = renumbered e n (n + 0) x (x + 0) q (omega arith) (omega arith) (record { first = at.first; is = are ∙ at.is })
keep_numbers law e p q (call ∷ calls) n x at are =
    let here = after_call law e p are.0 call n x at are.1 in
    let all = keep_numbers law e are.0 q calls (n + length (sealed_by call)) (x + length (opened_by call)) here are.2 in
    renumbered e _ (n + length (sealings_in (call ∷ calls))) _ (x + length (opened_in (call ∷ calls))) q (omega (arith, length-append (sealed_by call) (sealings_in calls))) (omega (arith, length-append (opened_by call) (opened_in calls))) all

-- ---- what is sealed has its number

abbrev SealsIt : PeerEnd → ℕ → Sealing → Type 0
SealsIt e number s = Seals e.etype e.key (session_of e.session) number s.user s.at s.confounder s.frame

sealed_here : (e : PeerEnd) (p q : PeerState) (call : PeerCall) (n x : ℕ) → IsPeerAt e n x p → IsPeerCall e p call q → (k : ℕ) (s : Sealing) → slice_get (sealed_by call) k ≡ Some s → SealsIt e (n + k) s
sealed_here e p q (Sealed t) n x at is zero s there =
    let same : t ≡ s = cc in
    let zero_more : n ≡ n + 0 = omega arith in
    let own : SealsIt e n t = subst (λ (r : PeerState). Seals r.sealer.etype r.sealer.key r.sealer.session r.sealer.next t.user t.at t.confounder t.frame) at.is is.0 in
    subst (λ (z : Sealing). SealsIt e (n + 0) z) same (subst (λ (m : ℕ). SealsIt e m t) zero_more own)
sealed_here e p q (Sealed t) n x at is (suc k) s there = absurd (let e = there in cc)
sealed_here e p q (Opened o) n x at is k s there = absurd (let e = there in cc)
sealed_here e p q (Resumed state) n x at is k s there = absurd (let e = there in cc)
sealed_here e p q Failed n x at is k s there = absurd (let e = there in cc)

-- an item of two lists
either : {X : Type 0} (xs ys : List X) (k : ℕ) (y : X) → slice_get (xs ++ ys) k ≡ Some y → (slice_get xs k ≡ Some y) ⊎ ((j : ℕ) × (k ≡ length xs + j) × (slice_get ys j ≡ Some y))
either [] ys k y at = inr (k, omega arith, at)
either (x ∷ xs) ys zero y at = inl at
either (x ∷ xs) ys (suc k) y at = elim (either xs ys k y at) [ inl here ↦ inl here | inr there ↦ inr (there.0, omega (arith, there.1), there.2) ]

sealed_at : OneExport → (e : PeerEnd) (p q : PeerState) (calls : List PeerCall) (n x : ℕ) → IsPeerAt e n x p → ArePeerCalls e p calls q → (k : ℕ) (s : Sealing) → slice_get (sealings_in calls) k ≡ Some s → SealsIt e (n + k) s
sealed_at law e p q [] n x at are k s there = absurd (let e = there in cc)
sealed_at law e p q (call ∷ calls) n x at are k s there =
    elim (either (sealed_by call) (sealings_in calls) k s there) [
      | inl here ↦ sealed_here e p are.0 call n x at are.1 k s here
      | inr later ↦
          let mine = sealed_at law e are.0 q calls (n + length (sealed_by call)) (x + length (opened_by call)) (after_call law e p are.0 call n x at are.1) are.2 later.0 s later.2 in
          let its : n + length (sealed_by call) + later.0 ≡ n + k = omega (arith, later.1) in
          subst (λ (m : ℕ). SealsIt e m s) its mine
    ]

-- ---- what is opened was sealed under its number

same_body : (a b : Body) → ◌≡◌ {A = Authenticity} (Ok a) (Ok b) → a ≡ b
same_body a b e = cc

number_asked : (how n q : ℕ) → (how ≡ 2) ⊎ (how ≡ 3) → (nat_eq how 0 || nat_eq q n) ≡ true → q ≡ n
number_asked how n q (inl two) met = let e : nat_eq q n ≡ true = (let s : (nat_eq how 0 || nat_eq q n) ≡ nat_eq q n = rw two refl in sym s ∙ met) in eqb-true q n e
number_asked how n q (inr three) met = let e : nat_eq q n ≡ true = (let s : (nat_eq how 0 || nat_eq q n) ≡ nat_eq q n = rw three refl in sym s ∙ met) in eqb-true q n e

as_sealed : (o : OpenerState) (s : Session) (d : KrbDemand) (q at now : ℕ) (user frame : List ℕ) (b : Body) (x : Authenticity) → Authenticates o frame (Ok (body_of s q user at)) → (d.how_number ≡ 2) ⊎ (d.how_number ≡ 3)
    → Authenticates o frame x → AsDemanded d now x (Ok b) → (d.number ≡ q) × (b ≡ body_of s q user at)
as_sealed o s d q at now user frame b (Err r) its how authentic as_demanded = absurd cc
as_sealed o s d q at now user frame b (Ok a) its how authentic as_demanded =
    let met = met_all (demand_checks d now a) (GivesBody a) b as_demanded in
    let same : a ≡ body_of s q user at = same_body a (body_of s q user at) (one_authenticity o frame (Ok a) (Ok (body_of s q user at)) authentic its) in
    let number : number_meets d a.seq ≡ true = met.0.1.1.1.0 in
    let told : number_meets d (Some q) ≡ true = sym (ap (λ (z : Body). number_meets d z.seq) same) ∙ number in
    (sym (number_asked d.how_number d.number q how told), same_body b a met.1 ∙ same)

-- what an end opens of what it demands at a number
abbrev GivesAt : PeerEnd → ℕ → Opening → Type 0
GivesAt e number o =
    Gives (opener_of e.etype e.key (expect_of (peer_expect e.session e.demand))) (record e.demand { number = number }) o.now o.frame o.user o.told

given_here : (e : PeerEnd) (p q : PeerState) (o : Opening) (n x : ℕ) → IsPeerAt e n x p → IsPeerCall e p (Opened o) q → GivesAt e x o
given_here e p q o n x at is = subst (λ (r : PeerState). GivesTo (Some r.opener) r.demand o.now o.frame o.user o.told) at.is is.0

pub own_data : (e : PeerEnd) (sealer : SealerState) (all : List (List ℕ)) (c : ℕ) (o : Opening) → Hears e sealer → IsSealedOf sealer all o.frame → GivesAt e (sealer.next + c) o → slice_get all c ≡ Some o.user
own_data e sealer all c o hears own (b, (x, authentic, as_demanded), user_is, told_is) =
    let expect = expect_of (peer_expect e.session e.demand) in
    let opener = opener_of e.etype e.key expect in
    let q = sealer.next + own.k in
    let mine : Seals e.etype e.key sealer.session q own.user own.at own.confounder o.frame = rw (hears.etype, hears.key) own.seals in
    let its : Authenticates opener o.frame (Ok (body_of sealer.session q own.user own.at)) = sealed_is_authentic e.etype e.key sealer.session expect q own.at own.user own.confounder o.frame mine hears.mode in
    let w = as_sealed opener sealer.session (record e.demand { number = sealer.next + c }) q own.at o.now own.user o.frame b x its hears.how_number authentic as_demanded in
    let place : own.k ≡ c = omega (arith, w.0) in
    let data_is : own.user ≡ o.user = sym (user_is ∙ ap (λ (z : Body). z.user_data) w.1) in
    ap (λ i. slice_get all i) (sym place) ∙ (own.there ∙ ap (λ u. Some u) data_is)

-- ---- in order

module _ (law : OneExport) (e : PeerEnd) (sealer : SealerState) (all : List (List ℕ)) (hears : Hears e sealer) where
  abbrev Fine : ℕ → List PeerCall → Type 0
  Fine c calls = OpenNoForgery sealer all c calls

  later : (call : PeerCall) (calls : List PeerCall) (c : ℕ) → Fine c (call ∷ calls) → Fine (c + length (opened_by call)) calls
  later call calls c fine front back o is =
      let count : c + length (opened_in (call ∷ front)) ≡ c + length (opened_by call) + length (opened_in front) = omega (arith, length-append (opened_by call) (opened_in front)) in
      elim (fine (call ∷ front) back o (ap (λ l. call ∷ l) is)) [
        | inl own ↦ inl own
        | inr numbered ↦ inr (ap (λ i. slice_get all i) (sym count) ∙ numbered)
      ]

  opened_there : (p q : PeerState) (o : Opening) (calls : List PeerCall) (n c : ℕ) → IsPeerAt e n (sealer.next + c) p → IsPeerCall e p (Opened o) q → Fine c (Opened o ∷ calls) → slice_get all c ≡ Some o.user
  opened_there p q o calls n c at is fine =
      let zero_more : c + 0 ≡ c = omega arith in
      elim (fine [] calls o refl) [
        | inl own ↦ own_data e sealer all c o hears own (given_here e p q o n (sealer.next + c) at is)
        | inr numbered ↦ ap (λ i. slice_get all i) (sym zero_more) ∙ numbered
      ]

  front_of : (p q : PeerState) (call : PeerCall) (calls : List PeerCall) (n c : ℕ) → IsPeerAt e n (sealer.next + c) p → IsPeerCall e p call q → Fine c (call ∷ calls)
      → drop c all ≡ opened_by call ++ drop (c + length (opened_by call)) all
  front_of p q (Sealed s) calls n c at is fine = ap (λ i. drop i all) (let e : c ≡ c + 0 = omega arith in e)
  front_of p q (Opened o) calls n c at is fine =
      let more : suc c ≡ c + 1 = omega arith in
      drop_get all c o.user (opened_there p q o calls n c at is fine) ∙ ap (λ i. o.user ∷ drop i all) more
  front_of p q (Resumed state) calls n c at is fine = ap (λ i. drop i all) (let e : c ≡ c + 0 = omega arith in e)
  front_of p q Failed calls n c at is fine = ap (λ i. drop i all) (let e : c ≡ c + 0 = omega arith in e)

  next_at : (p q : PeerState) (call : PeerCall) (n c : ℕ) → IsPeerAt e n (sealer.next + c) p → IsPeerCall e p call q → IsPeerAt e (n + length (sealed_by call)) (sealer.next + (c + length (opened_by call))) q
  next_at p q call n c at is =
      renumbered e (n + length (sealed_by call)) (n + length (sealed_by call)) (sealer.next + c + length (opened_by call)) (sealer.next + (c + length (opened_by call))) q refl (omega arith) (after_call law e p q call n (sealer.next + c) at is)

  pub opens_from : (p q : PeerState) (calls : List PeerCall) (n c : ℕ) → IsPeerAt e n (sealer.next + c) p → ArePeerCalls e p calls q → Fine c calls → IsPrefix (opened_in calls) (drop c all)
  opens_from p q [] n c at are fine = (drop c all, refl)
  opens_from p q (call ∷ calls) n c at are fine =
      let rest = opens_from are.0 q calls (n + length (sealed_by call)) (c + length (opened_by call)) (next_at p are.0 call n c at are.1) are.2 (later call calls c fine) in
      let here = front_of p are.0 call calls n c at are.1 fine in
      (rest.0, here ∙ (ap (λ l. opened_by call ++ l) rest.1 ∙ sym (append_assoc (opened_by call) (opened_in calls) rest.0)))

pub open_in_order : OneExport → PeersOpenInOrder
open_in_order law e sealer all start end calls next first hears at are fine =
    let w = opens_from law e sealer all hears start end calls next first at are fine in
    (w.0, sym (take-append-drop first all) ∙ (ap (λ l. take first all ++ l) w.1 ∙ sym (append_assoc (take first all) (opened_in calls) w.0)))

-- ---- two peers

-- the calls before one, and it
record Split (e : PeerEnd) (p : PeerState) (front : List PeerCall) (call : PeerCall) (n x : ℕ) : Type 0 where
  pub before : PeerState
  pub after : PeerState
  pub at : IsPeerAt e (n + length (sealings_in front)) (x + length (opened_in front)) before
  pub is : IsPeerCall e before call after

split : OneExport → (e : PeerEnd) (p q : PeerState) (front back : List PeerCall) (call : PeerCall) (n x : ℕ) → IsPeerAt e n x p → ArePeerCalls e p (front ++ call ∷ back) q → Split e p front call n x
split law e p q [] back call n x at are =
    record { before = p; after = are.0; at = renumbered e n (n + 0) x (x + 0) p (omega arith) (omega arith) at; is = are.1 }
split law e p q (first ∷ front) back call n x at are =
    let rest = split law e are.0 q front back call (n + length (sealed_by first)) (x + length (opened_by first)) (after_call law e p are.0 first n x at are.1) are.2 in
    record {
      before = rest.before;
      after = rest.after;
      at = renumbered e _ (n + length (sealings_in (first ∷ front))) _ (x + length (opened_in (first ∷ front))) rest.before (omega (arith, length-append (sealed_by first) (sealings_in front))) (omega (arith, length-append (opened_by first) (opened_in front))) rest.at;
      is = rest.is;
    }

-- an own frame isn't opened
no_own : (e : PeerEnd) (number q at : ℕ) (user conf : List ℕ) (o : Opening) → TellsApart e → Seals e.etype e.key (session_of e.session) q user at conf o.frame → GivesAt e number o → ⊥
no_own e number q at user conf o apart seals (b, opens, user_is, told_is) =
    let expect = expect_of (peer_expect e.session e.demand) in
    let wrong = (peers_refuse e.etype e.key (session_of e.session) expect (record e.demand { number = number }) q at o.now user conf o.frame (Ok b) seals refl apart.demands apart.another).0 opens in
    let no : ◌≡◌ {A = Authenticity} (Ok b) (Err BadAddr) = wrong in
    cc

map_get : {X Y : Type 0} (f : X → Y) (xs : List X) (k : ℕ) (x : X) → slice_get xs k ≡ Some x → slice_get (map f xs) k ≡ Some (f x)
map_get f [] k x at = absurd (let e = at in cc)
map_get f (y ∷ xs) zero x at = let same : y ≡ x = cc in ap (λ z. Some (f z)) same
map_get f (y ∷ xs) (suc k) x at = map_get f xs k x at

zero_before : (m : ℕ) → 0 + m ≡ m
zero_before m = omega arith

-- one opens what the other sealed
module _ (law : OneExport) (a b : PeerEnd) (peers : ArePeers a b) (apart : TellsApart b) (pa qa pb qb : PeerState) (calls_a calls_b : List PeerCall) (n x : ℕ)
    (at-a : IsPeerAt a n x pa) (at-b : IsPeerAt b x n pb) (are-a : ArePeerCalls a pa calls_a qa) (are-b : ArePeerCalls b pb calls_b qb) (fine : OpenOfBoth calls_a calls_b) where
  abbrev sealer : SealerState
  sealer = record (new_state a.etype a.key (session_of a.session)) { next = n }

  hears : Hears b sealer
  hears = record { etype = sym peers.etype; key = sym peers.key; mode = peers.mode; how_number = peers.b_number }

  no_forgery : OpenNoForgery sealer (sealed_in calls_a) 0 calls_b
  no_forgery front back o is =
      elim (fine front back o is) [
        | inl (inl theirs) ↦
            let s = theirs.sealing in
            let seals : SealsIt a (n + theirs.k) s = sealed_at law a pa qa calls_a n x at-a are-a theirs.k s theirs.there in
            inl (record {
              k = theirs.k;
              user = s.user;
              at = s.at;
              confounder = s.confounder;
              there = map_get (λ (t : Sealing). t.user) (sealings_in calls_a) theirs.k s theirs.there;
              seals = subst (λ f. Seals a.etype a.key (session_of a.session) (n + theirs.k) s.user s.at s.confounder f) theirs.is seals;
            })
        | inl (inr own) ↦
            let s = own.sealing in
            let seals : SealsIt b (x + own.k) s = sealed_at law b pb qb calls_b x n at-b are-b own.k s own.there in
            let mine = subst (λ f. Seals b.etype b.key (session_of b.session) (x + own.k) s.user s.at s.confounder f) own.is seals in
            let w = split law b pb qb front back (Opened o) x n at-b (subst (λ l. ArePeerCalls b pb l qb) is are-b) in
            absurd (no_own b (n + length (opened_in front)) (x + own.k) s.at s.user s.confounder o apart mine (given_here b w.before w.after o _ _ w.at w.is))
        | inr numbered ↦ inr (ap (λ i. slice_get (sealed_in calls_a) i) (zero_before (length (opened_in front))) ∙ numbered)
      ]

  pub one_way : IsPrefix (opened_in calls_b) (sealed_in calls_a)
  one_way =
      let zero_more : n ≡ n + 0 = omega arith in
      opens_from law b sealer (sealed_in calls_a) hears pb qb calls_b x 0 (renumbered b x x n (n + 0) pb refl zero_more at-b) are-b no_forgery

turned : (a b : PeerEnd) → ArePeers a b → ArePeers b a
turned a b p = record { etype = sym p.etype; key = sym p.key; mode = sym p.mode; a_number = p.b_number; b_number = p.a_number }

pub agree : OneExport → PeersAgree
agree law a b pa qa pb qb calls_a calls_b n x peers apart-a apart-b at-a at-b are-a are-b fine-b fine-a = (
  one_way law a b peers apart-b pa qa pb qb calls_a calls_b n x at-a at-b are-a are-b fine-b,
  one_way law b a (turned a b peers) apart-a pb qb pa qa calls_b calls_a x n at-b at-a are-b are-a fine-a,
)
