-- What a level knows once its worker was joined.
use Rattle.std.proofs.Common.{◌≡◌, ℕ, ◌+◌, ◌<◌, zero, suc, replicate, slice_set, arith, List, [], ◌∷◌, ◌++◌, length, map, reverse, refl, sym, ap, subst, ◌∙◌, ◌⊎◌, inl, inr, Option, None, Some}
use Rattle.std.specs.Prelude.{All}
use Rattle.std.specs.List.{AllZip}
use Rattle.std.proofs.lemmas.List.{append_assoc, append-nil, length-set, map-append, reverse-append, same_from_push, length_push}
use Rattle.std.proofs.lemmas.List.Elements.{All-nil, All-cons, All-head, All-tail, All-append}
use Rattle.krb_lane.specs.Side.{Side}
use Rattle.krb_peers.specs.declared.receiver.Receiving.{Receiving}
use Rattle.krb_peers.specs.LogState.{LogState}
use Rattle.krb_relay.specs.declared.cause.Cause.{Cause}
use Rattle.krb_relay.specs.declared.fault.OwnFault.{OwnFault}
use Rattle.krb_relay.specs.declared.fault.WorkerFault.{WorkerFault}
use Rattle.krb_relay.specs.declared.worker.Handed.{Handed}
use Rattle.krb_relay.specs.Gathering.{lane_of, NotesTaken, IsEnded, IsFresh, Finished, Begun, EndsWith, Started, got_by, HasEnded, least, Counts, IsServed, Gathers, Leaves}
use Rattle.krb_relay.specs.Heard.{BeginsAt, all_heard}
use Rattle.krb_relay.specs.Sealed.{sealed_on}

pub all_front : {X : Type 0} (P : X → Type 0) (xs ys : List X) → All P (xs ++ ys) → All P xs
all_front P [] ys h = All-nil P
all_front P (x ∷ xs) ys h = All-cons P x xs (All-head P x (xs ++ ys) h) (all_front P xs ys (All-tail P x (xs ++ ys) h))

pub all_last : {X : Type 0} (P : X → Type 0) (xs : List X) (y : X) → All P (xs ++ y ∷ []) → P y
all_last P [] y h = All-head P y [] h
all_last P (x ∷ xs) y h = all_last P xs y (All-tail P x (xs ++ y ∷ []) h)

-- ---- one end more

pub begun_fresh : (ends begun : List Side) (tx : Side) → Begun ends begun tx → All IsFresh ends → All IsFresh begun
begun_fresh ends begun tx b h =
    let P : List Side → Type 0 = λ x. All IsFresh x in
    subst P (sym b.grown) (All-append IsFresh ends (b.mine ∷ []) h (All-cons IsFresh b.mine [] b.fresh (All-nil IsFresh)))

-- the ends that come back end with the one that was added
ends_with : (now ends : List Side) (mine tx : Side) → tx.frames ≡ [] → mine.lane ≡ tx.lane → map lane_of now ≡ map lane_of (ends ++ mine ∷ []) → EndsWith now tx
ends_with [] [] mine tx empty same h = absurd (let e = h in cc)
ends_with [] (l ∷ ends) mine tx empty same h = absurd (let e = h in cc)
ends_with (n ∷ []) [] mine tx empty same h =
    let e : lane_of n ≡ lane_of mine = cc in
    record { front = []; mine = n; split = refl; empty = empty; same = e ∙ same }
ends_with (n ∷ m ∷ now) [] mine tx empty same h = absurd (let e = h in cc)
ends_with (n ∷ now) (l ∷ ends) mine tx empty same h =
    let e : map lane_of now ≡ map lane_of (ends ++ mine ∷ []) = cc in
    let w = ends_with now ends mine tx empty same e in
    record { front = n ∷ w.front; mine = w.mine; split = ap (λ x. n ∷ x) w.split; empty = empty; same = w.same }

pub begun_ends : {S : Type 0} (gives : S → Side → Handed → Type 0) (parts : List S) (starts : List Receiving) (ends begun now : List Side) (tx : Side) (log : LogState) (sealed : List ℕ) (own : Option OwnFault) (fault : Option WorkerFault)
    → Begun ends begun tx → Gathers gives parts starts begun now log sealed own fault → EndsWith now tx
begun_ends gives parts starts ends begun now tx log sealed own fault b g = ends_with now ends b.mine tx b.empty b.same (g.same ∙ ap (map lane_of) b.grown)

-- ---- how many records each worker sealed

zeros_from : (n lane : ℕ) → sealed_on lane (replicate n 0) ≡ 0
zeros_from zero lane = refl
zeros_from (suc n) zero = refl
zeros_from (suc n) (suc lane) = zeros_from n lane

pub zeros_on : (lane : ℕ) → sealed_on lane (replicate 8 0) ≡ 0
zeros_on lane = zeros_from 8 lane

set_here : (sealed : List ℕ) (lane count : ℕ) → lane < length sealed → sealed_on lane (slice_set sealed lane count) ≡ count
set_here [] lane count within = absurd (omega (arith, within))
set_here (n ∷ sealed) zero count within = refl
set_here (n ∷ sealed) (suc lane) count within = set_here sealed lane count (omega (arith, within))

set_other : (sealed : List ℕ) (lane other count : ℕ) → lane < other → sealed_on other (slice_set sealed lane count) ≡ sealed_on other sealed
set_other [] lane other count after = refl
set_other (n ∷ sealed) zero zero count after = absurd (omega (arith, after))
set_other (n ∷ sealed) zero (suc other) count after = refl
set_other (n ∷ sealed) (suc lane) zero count after = absurd (omega (arith, after))
set_other (n ∷ sealed) (suc lane) (suc other) count after = set_other sealed lane other count (omega (arith, after))

pub set_on : (sealed : List ℕ) (place lane count : ℕ) → place ≡ lane → slice_set sealed place count ≡ slice_set sealed lane count
set_on sealed place lane count same = ap (λ n. slice_set sealed n count) same

-- what is set on an earlier lane changes no count
counts_kept : {S : Type 0} (before : List ℕ) (lane count from : ℕ) (inner : List (Started S)) → lane < from → Counts before from inner → Counts (slice_set before lane count) from inner
counts_kept before lane count from [] after h = λ later within. set_other before lane later count (omega (arith, after, within)) ∙ h later within
counts_kept before lane count from (x ∷ inner) after h =
    (set_other before lane from count after ∙ h.0, counts_kept before lane count (from + 1) inner (omega (arith, after)) h.1)

counts_more : {S : Type 0} (before sealed : List ℕ) (lane : ℕ) (me : Started S) (inner : List (Started S)) → sealed ≡ slice_set before lane me.handed.sealed → lane < length before
    → Counts before (lane + 1) inner → Counts sealed lane (me ∷ inner)
counts_more before sealed lane me inner set room h =
    let C : List ℕ → Type 0 = λ x. Counts x lane (me ∷ inner) in
    subst C (sym set) (set_here before lane me.handed.sealed room, counts_kept before lane me.handed.sealed (lane + 1) inner (omega arith) h)

-- ---- a level

module _ {S : Type 0} (gives : S → Side → Handed → Type 0) where
  -- that starts no worker
  pub gathers_none : (parts : List S) (starts : List Receiving) (ends now : List Side) (log : LogState) (sealed : List ℕ) (own : Option OwnFault) (fault : Option WorkerFault)
      → sealed ≡ replicate 8 0 → fault ≡ None → (own ≡ None → parts ≡ []) → ((stop : OwnFault) → own ≡ Some stop → (parts ≡ []) ⊎ (stop.lane ≡ length ends))
      → Finished starts ends now log own → Gathers gives parts starts ends now log sealed own fault
  gathers_none parts starts ends now log sealed own fault zeros named empty names f =
      let P : List Side → Type 0 = λ x. AllZip BeginsAt f.seen (all_heard starts x) in
      record {
        inner = [];
        unstarted = reverse parts;
        parts_are = refl;
        served = All-nil (IsServed gives);
        seen = f.seen;
        judged = f.judged;
        logged = f.logged;
        begins = subst P (sym (append-nil now)) f.begins;
        lanes = f.lanes;
        same = f.same;
        taken = (let Q : List Side → Type 0 = λ x. NotesTaken log x in subst Q (sym (append-nil now)) f.taken);
        counted = λ later within. ap (sealed_on later) zeros ∙ zeros_on later;
        long = ap length zeros;
        named = named;
        own_named = λ stop is. elim (names stop is) as (λ _. (reverse parts ≡ []) ⊎ (stop.lane ≡ length ends + 0)) [ inl e ↦ inl (ap reverse e) | inr e ↦ inr (omega (arith, e)) ];
        whole = λ none. let w = f.whole none in
            (ap reverse (empty none), w.0 ∙ ap (all_heard starts) (sym (append-nil now)), w.1, All-nil (HasEnded {S = S}), w.2);
      }

  -- that starts one, and meets its lane after the levels inside
  gathers_more : (parts others : List S) (part : S) (starts : List Receiving) (ends : List Side) (mine : Side) (now left : List Side) (met : Side) (log : LogState) (before sealed : List ℕ) (own : Option OwnFault) (inside fault : Option WorkerFault) (tx : Side) (handed : Handed)
      → sealed ≡ slice_set before (length ends) handed.sealed → length ends < length before
      → ((inner : List (Started S)) → inside ≡ least (length ends + 1) inner → fault ≡ least (length ends) (record { part = part; tx = tx; handed = handed; got = met } ∷ inner))
      → parts ≡ others ++ part ∷ [] → now ≡ left ++ met ∷ []
      → IsServed gives (record { part = part; tx = tx; handed = handed; got = met })
      → Gathers gives others starts (ends ++ mine ∷ []) now log before own inside → Gathers gives parts starts ends left log sealed own fault
  gathers_more parts others part starts ends mine now left met log before sealed own inside fault tx handed set room faults parts_is now_is served g =
      let me : Started S = record { part = part; tx = tx; handed = handed; got = met } in
      let sides : now ++ map got_by g.inner ≡ left ++ map got_by (me ∷ g.inner) =
      ap (λ x. x ++ map got_by g.inner) now_is ∙ append_assoc left (met ∷ []) (map got_by g.inner) in
      let names : map lane_of left ++ lane_of met ∷ [] ≡ map lane_of ends ++ lane_of mine ∷ [] =
      sym (map-append lane_of left (met ∷ [])) ∙ (ap (map lane_of) (sym now_is) ∙ (g.same ∙ map-append lane_of ends (mine ∷ []))) in
      let more : length (ends ++ mine ∷ []) ≡ length ends + 1 = length_push ends mine in
      let P : List Side → Type 0 = λ x. AllZip BeginsAt g.seen (all_heard starts x) in
      record {
        inner = me ∷ g.inner;
        unstarted = g.unstarted;
        parts_are = ap reverse parts_is ∙ (reverse-append others (part ∷ []) ∙ ap (λ x. part ∷ x) g.parts_are);
        served = All-cons (IsServed gives) me g.inner served g.served;
        seen = g.seen;
        judged = g.judged;
        logged = g.logged;
        begins = subst P sides g.begins;
        lanes = g.lanes;
        same = (same_from_push (map lane_of left) (map lane_of ends) (lane_of met) (lane_of mine) names).0;
        taken = (let T : List Side → Type 0 = λ x. NotesTaken log x in subst T sides g.taken);
        counted = counts_more before sealed (length ends) me g.inner set room (let C : ℕ → Type 0 = λ n. Counts before n g.inner in subst C more g.counted);
        long = ap length set ∙ (length-set before (length ends) handed.sealed ∙ g.long);
        named = faults g.inner (g.named ∙ ap (λ n. least n g.inner) more);
        own_named = λ stop is. elim (g.own_named stop is) as (λ _. (g.unstarted ≡ []) ⊎ (stop.lane ≡ length ends + length (me ∷ g.inner))) [ inl e ↦ inl e | inr e ↦ inr (omega (arith, e, more)) ];
        whole = λ none. let w = g.whole none in
            let Q : List Side → Type 0 = λ x. All IsEnded x in
            let ended : All IsEnded (left ++ met ∷ []) = subst Q now_is w.2 in
            (w.0, w.1 ∙ ap (all_heard starts) sides, all_front IsEnded left (met ∷ []) ended, All-cons (HasEnded {S = S}) me g.inner (all_last IsEnded left met ended) w.3, w.4);
      }

-- what a level knows once its worker was joined and its lane was met
pub gathers_leave : {S W : Type 0} (gives : W → S → Side → Handed → Type 0) (work promised : W) (parts others : List S) (part kept : S) (starts : List Receiving) (ends begun now left : List Side) (tx : Side) (log : LogState) (before sealed : List ℕ) (own : Option OwnFault) (inside fault : Option WorkerFault) (count : ℕ) (cause : Option Cause)
    → sealed ≡ slice_set before (length ends) count → length ends < length before
    → ((handed : Handed) (inner : List (Started S)) (got : Side) → cause ≡ handed.cause → inside ≡ least (length ends + 1) inner → fault ≡ least (length ends) (record { part = part; tx = tx; handed = handed; got = got } ∷ inner))
    → promised ≡ work → kept ≡ part → parts ≡ others ++ part ∷ [] → Begun ends begun tx → Leaves (gives promised) now left kept tx count cause → Gathers (gives work) others starts begun now log before own inside
    → Gathers (gives work) parts starts ends left log sealed own fault
gathers_leave {S} {W} gives work promised parts others part kept starts ends begun now left tx log before sealed own inside fault count cause set room faults same_work same_part parts_is b l g =
    let P : W → Type 0 = λ x. Leaves (gives x) now left kept tx count cause in
    let Q : S → Type 0 = λ x. Leaves (gives work) now left x tx count cause in
    let met : Leaves (gives work) now left part tx count cause = subst Q same_part (subst P same_work l) in
    let T : List Side → Type 0 = λ x. Gathers (gives work) others starts x now log before own inside in
    gathers_more (gives work) parts others part starts ends b.mine now left met.mine log before sealed own inside fault tx met.handed (set ∙ ap (λ n. slice_set before (length ends) n) met.sealed_is) room (λ inner named. faults met.handed inner met.mine met.cause_is named) parts_is met.split met.served (subst T b.grown g)

-- the worker had a fault
pub least_here : {S : Type 0} (n lane : ℕ) (part : S) (tx : Side) (handed : Handed) (got : Side) (inner : List (Started S)) (cause : Cause) → n ≡ lane → Some cause ≡ handed.cause
    → Some (let f : WorkerFault = record { cause = cause; lane = n } in f) ≡ least lane (record { part = part; tx = tx; handed = handed; got = got } ∷ inner)
least_here n lane part tx handed got inner cause same is = rw (← is, same) refl

-- the worker had none
pub least_later : {S : Type 0} (n : ℕ) (part : S) (tx : Side) (handed : Handed) (got : Side) (inner : List (Started S)) (cause : Option Cause) (fault : Option WorkerFault) → cause ≡ None → cause ≡ handed.cause → fault ≡ least (n + 1) inner
    → fault ≡ least n (record { part = part; tx = tx; handed = handed; got = got } ∷ inner)
least_later n part tx handed got inner cause fault none is rest = rw (← is, none) rest

-- a level that could not begin
pub gathers_fault : {S : Type 0} (gives : S → Side → Handed → Type 0) (parts : List S) (starts : List Receiving) (ends mid now : List Side) (log : LogState) (sealed : List ℕ) (own : Option OwnFault) (fault : OwnFault)
    → sealed ≡ replicate 8 0 → mid ≡ ends → own ≡ Some fault → fault.lane ≡ length ends → Finished starts mid now log own → Gathers gives parts starts ends now log sealed own None
gathers_fault gives parts starts ends mid now log sealed own fault zeros mid_is own_is lane_is f =
    let P : List Side → Type 0 = λ x. Finished starts x now log own in
    gathers_none gives parts starts ends now log sealed own None zeros refl (λ none. absurd (let e : Some fault ≡ None = sym own_is ∙ none in cc))
    (λ stop is. let e : Some fault ≡ Some stop = sym own_is ∙ is in
    let same : fault ≡ stop = cc in
    inr (ap (λ (f : OwnFault). f.lane) (sym same) ∙ lane_is))
    (subst P mid_is f)

pub no_ends : (now : List Side) → map lane_of now ≡ [] → now ≡ []
no_ends [] h = refl
no_ends (n ∷ now) h = absurd (let e = h in cc)
