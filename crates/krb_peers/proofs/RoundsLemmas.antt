-- What rounds are.
use Rattle.std.proofs.Common.{◌≡◌, ◌⊎◌, ℕ, zero, suc, ◌+◌, ◌-◌, ◌<◌, ◌≤◌, max, List, [], ◌∷◌, ◌++◌, length, map, take, slice_get, Option, Some, None, inl, inr, refl, sym, ap, ap₂, subst, ◌∙◌, arith, append-nil, append_assoc, length-append}
use Rattle.std.specs.List.{All, Contains, flat_map}
use Rattle.std.proofs.lemmas.List.{take_all, length-take}
use Rattle.std.proofs.lemmas.List.Concat.{flat_map-append}
use Rattle.std.proofs.lemmas.List.Folds.{flat_map-map}
use Rattle.std.proofs.lemmas.List.Elements.{All-nil, All-cons, All-head, All-tail, All-append, All-weaker, All-contains, Contains-append_left, Contains-append_right}
use Rattle.std.proofs.lemmas.Option.{slice_get_past, slice_get_within}
use Rattle.krb_peers.specs.declared.log.Event.{Event}
use Rattle.krb_peers.specs.declared.log.Entry.{Entry}
use Rattle.krb_peers.specs.Log.{entries_for, events_of}
use Rattle.krb_peers.specs.Verdicts.{Verdict, events_by, groups_of}
use Rattle.krb_peers.specs.Verdicts as verdict
use Rattle.krb_peers.specs.Rounds.{named, round, rounds_below, longest, rounds, NoneLonger, list_of, joined, Spot, IsSpot, entries_at, IsBefore, Rises, AreRounds}
use Rattle.krb_peers.proofs.ListLemmas.{slice_get-front, lt_or_same, there_is}
use Rattle.krb_peers.proofs.LoggedLemmas.{events_of-append, events_of-own, events_of-other}

-- ---- past the longest list nothing comes

abbrev Within : ℕ → List (List Event) → Type 0
Within n groups = length groups ≤ n

none-head : (n : ℕ) (groups : List (List Event)) (rest : List (List (List Event))) → NoneLonger n (groups ∷ rest) → length groups ≤ n
none-head n groups rest h = All-head (Within n) groups rest h

none-tail : (n : ℕ) (groups : List (List Event)) (rest : List (List (List Event))) → NoneLonger n (groups ∷ rest) → NoneLonger n rest
none-tail n groups rest h = All-tail (Within n) groups rest h

pub NoneLonger-more : (n m : ℕ) (lists : List (List (List Event))) → n ≤ m → NoneLonger n lists → NoneLonger m lists
NoneLonger-more n m lists le h = All-weaker (Within n) (Within m) (λ groups short. omega (arith, short, le)) lists h

pub NoneLonger-longest : (lists : List (List (List Event))) → NoneLonger (longest lists) lists
NoneLonger-longest [] = All-nil (Within 0)
NoneLonger-longest (groups ∷ rest) =
    let n : ℕ = max (length groups) (longest rest) in
    All-cons (Within n) groups rest (omega arith) (NoneLonger-more (longest rest) n rest (omega arith) (NoneLonger-longest rest))

longest_least : (n : ℕ) (lists : List (List (List Event))) → NoneLonger n lists → longest lists ≤ n
longest_least n [] h = omega arith
longest_least n (groups ∷ rest) h = omega (arith, none-head n groups rest h, longest_least n rest (none-tail n groups rest h))

round-past : (n lane : ℕ) (lists : List (List (List Event))) → NoneLonger n lists → round n lane lists ≡ []
round-past n lane [] h = refl
round-past n lane (groups ∷ rest) h = rw (slice_get_past groups n (none-head n groups rest h)) (round-past n (lane + 1) rest (none-tail n groups rest h))

rounds_below-past : (n : ℕ) (lists : List (List (List Event))) → NoneLonger n lists → (m : ℕ) → rounds_below (m + n) lists ≡ rounds_below n lists
rounds_below-past n lists h zero = let e : 0 + n ≡ n = omega arith in rw e refl
rounds_below-past n lists h (suc m) =
    let e : suc m + n ≡ suc (m + n) = omega arith in
    rw (e, round-past (m + n) 0 lists (NoneLonger-more n (m + n) lists (omega arith) h)) (append-nil (rounds_below (m + n) lists) ∙ rounds_below-past n lists h m)

-- from the longest list on, so many rounds are all rounds
pub rounds-from_below : (n : ℕ) (lists : List (List (List Event))) → NoneLonger n lists → rounds lists ≡ rounds_below n lists
rounds-from_below n lists h =
    let le : longest lists ≤ n = longest_least n lists h in
    let e : (n - longest lists) + longest lists ≡ n = omega (arith, le) in
    sym (rounds_below-past (longest lists) lists (NoneLonger-longest lists) (n - longest lists)) ∙ ap (λ k. rounds_below k lists) e

-- ---- one group more

slice_get-push : {V : Type 0} (xs : List V) (x : V) → slice_get (xs ++ x ∷ []) (length xs) ≡ Some x
slice_get-push [] x = refl
slice_get-push (y ∷ xs) x = slice_get-push xs x

-- an earlier round is as before
round-earlier : (n lane : ℕ) (front : List (List (List Event))) (groups : List (List Event)) (group : List Event) (back : List (List (List Event))) → n < length groups
    → round n lane (front ++ (groups ++ group ∷ []) ∷ back) ≡ round n lane (front ++ groups ∷ back)
round-earlier n lane [] groups group back h = rw (slice_get-front groups group n h) refl
round-earlier n lane (f ∷ front) groups group back h = ap (λ r. named lane (slice_get f n) ++ r) (round-earlier n (lane + 1) front groups group back h)

-- in its own round the group comes last
round-push : (lane : ℕ) (front : List (List (List Event))) (groups : List (List Event)) (group : List Event) (back : List (List (List Event))) → NoneLonger (length groups) back
    → round (length groups) lane (front ++ (groups ++ group ∷ []) ∷ back) ≡ round (length groups) lane (front ++ groups ∷ back) ++ entries_for (lane + length front) group
round-push lane [] groups group back h =
    let e : length groups ≤ length groups = omega arith in
    let n : lane ≡ lane + 0 = omega arith in
    rw (slice_get-push groups group, slice_get_past groups (length groups) e, round-past (length groups) (lane + 1) back h) (append-nil (entries_for lane group) ∙ ap (λ k. entries_for k group) n)
round-push lane (f ∷ front) groups group back h =
    let e : lane + 1 + length front ≡ lane + suc (length front) = omega arith in
    rw (round-push (lane + 1) front groups group back h, e) (sym (append_assoc (named lane (slice_get f (length groups))) (round (length groups) (lane + 1) (front ++ groups ∷ back)) (entries_for (lane + suc (length front)) group)))

rounds_below-earlier : (n : ℕ) (front : List (List (List Event))) (groups : List (List Event)) (group : List Event) (back : List (List (List Event))) → n ≤ length groups
    → rounds_below n (front ++ (groups ++ group ∷ []) ∷ back) ≡ rounds_below n (front ++ groups ∷ back)
rounds_below-earlier zero front groups group back h = refl
rounds_below-earlier (suc n) front groups group back h =
    rw (rounds_below-earlier n front groups group back (omega (arith, h)), round-earlier n 0 front groups group back (omega (arith, h))) refl

-- one group more, of a lane whose followers have no more than it had, is the last entry
pub rounds_below-push : (front : List (List (List Event))) (groups : List (List Event)) (group : List Event) (back : List (List (List Event))) → NoneLonger (length groups) back
    → rounds_below (suc (length groups)) (front ++ (groups ++ group ∷ []) ∷ back) ≡ rounds_below (suc (length groups)) (front ++ groups ∷ back) ++ entries_for (length front) group
rounds_below-push front groups group back h =
    let e : 0 + length front ≡ length front = omega arith in
    rw (rounds_below-earlier (length groups) front groups group back (omega arith), round-push 0 front groups group back h, e)
    (sym (append_assoc (rounds_below (length groups) (front ++ groups ∷ back)) (round (length groups) 0 (front ++ groups ∷ back)) (entries_for (length front) group)))

-- the same of all rounds, where no earlier lane has more groups than it has now
pub rounds-push : (front : List (List (List Event))) (groups : List (List Event)) (group : List Event) (back : List (List (List Event))) → NoneLonger (suc (length groups)) front → NoneLonger (length groups) back
    → rounds (front ++ (groups ++ group ∷ []) ∷ back) ≡ rounds (front ++ groups ∷ back) ++ entries_for (length front) group
rounds-push front groups group back in-front h =
    let n : ℕ = suc (length groups) in
    let more : length groups ≤ n = omega arith in
    let long : length (groups ++ group ∷ []) ≤ n = omega (arith, length-append groups (group ∷ [])) in
    let following : NoneLonger n back = NoneLonger-more (length groups) n back more h in
    let before : NoneLonger n (front ++ groups ∷ back) = All-append (Within n) front (groups ∷ back) in-front (All-cons (Within n) groups back more following) in
    let after : NoneLonger n (front ++ (groups ++ group ∷ []) ∷ back) =
    All-append (Within n) front ((groups ++ group ∷ []) ∷ back) in-front (All-cons (Within n) (groups ++ group ∷ []) back long following) in
    rounds-from_below n (front ++ (groups ++ group ∷ []) ∷ back) after
    ∙ (rounds_below-push front groups group back h ∙ ap (λ es. es ++ entries_for (length front) group) (sym (rounds-from_below n (front ++ groups ∷ back) before)))

-- ---- a front of each list

get_take : {V : Type 0} (j m : ℕ) (xs : List V) → m < j → slice_get (take j xs) m ≡ slice_get xs m
get_take zero m xs h = absurd (omega (arith, h))
get_take (suc j) m [] h = refl
get_take (suc j) zero (x ∷ xs) h = refl
get_take (suc j) (suc m) (x ∷ xs) h = get_take j m xs (omega (arith, h))

-- so many groups of each list
abbrev pub fronts : ℕ → List (List (List Event)) → List (List (List Event))
fronts n lists = map (take n) lists

-- one group more of the first lanes than of the others
abbrev pub cut : ℕ → List (List (List Event)) → List (List (List Event)) → List (List (List Event))
cut n gone rest = fronts (suc n) gone ++ fronts n rest

round-fronts : (m n lane : ℕ) (rest : List (List (List Event))) → m < n → round m lane (fronts n rest) ≡ round m lane rest
round-fronts m n lane [] h = refl
round-fronts m n lane (groups ∷ rest) h = ap₂ (λ o r. named lane o ++ r) (get_take n m groups h) (round-fronts m n (lane + 1) rest h)

round-cut : (m n lane : ℕ) (gone rest : List (List (List Event))) → m < n → round m lane (cut n gone rest) ≡ round m lane (gone ++ rest)
round-cut m n lane [] rest h = round-fronts m n lane rest h
round-cut m n lane (groups ∷ gone) rest h = ap₂ (λ o r. named lane o ++ r) (get_take (suc n) m groups (omega (arith, h))) (round-cut m n (lane + 1) gone rest h)

rounds_below-cut : (m n : ℕ) (gone rest : List (List (List Event))) → m ≤ n → rounds_below m (cut n gone rest) ≡ rounds_below m (gone ++ rest)
rounds_below-cut zero n gone rest h = refl
rounds_below-cut (suc m) n gone rest h = ap₂ (λ a b. a ++ b) (rounds_below-cut m n gone rest (omega (arith, h))) (round-cut m n 0 gone rest (omega (arith, h)))

short_fronts : (n : ℕ) (lists : List (List (List Event))) → NoneLonger n (fronts n lists)
short_fronts n [] = All-nil (Within n)
short_fronts n (groups ∷ rest) = All-cons (Within n) (take n groups) (fronts n rest) (omega (arith, length-take n groups)) (short_fronts n rest)

-- in the last round only the first lanes have a group
last-cut : (n lane : ℕ) (gone rest : List (List (List Event))) → round n lane (cut n gone rest) ≡ round n lane gone
last-cut n lane [] rest = round-past n lane (fronts n rest) (short_fronts n rest)
last-cut n lane (groups ∷ gone) rest = ap₂ (λ o r. named lane o ++ r) (get_take (suc n) n groups (omega arith)) (last-cut n (lane + 1) gone rest)

-- so many rounds of all, and one more of the first lanes, are all rounds of the fronts
pub rounds-cut : (n : ℕ) (gone rest : List (List (List Event))) → rounds_below n (gone ++ rest) ++ round n 0 gone ≡ rounds (cut n gone rest)
rounds-cut n gone rest =
    let all : List (List (List Event)) = cut n gone rest in
    let more : n ≤ suc n = omega arith in
    let none : NoneLonger (suc n) all =
    All-append (Within (suc n)) (fronts (suc n) gone) (fronts n rest) (short_fronts (suc n) gone) (NoneLonger-more n (suc n) (fronts n rest) more (short_fronts n rest)) in
    sym (rounds-from_below (suc n) all none ∙ ap₂ (λ a b. a ++ b) (rounds_below-cut n n gone rest (omega arith)) (last-cut n 0 gone rest))

-- ---- the events of one lane

apart : (lane other : ℕ) (o : Option (List Event)) → (lane ≡ other → ⊥) → events_of other (named lane o) ≡ []
apart lane other None h = refl
apart lane other (Some group) h = events_of-other lane other group h

single : Option (List Event) → List Event
single None = []
single (Some group) = group

own : (lane : ℕ) (o : Option (List Event)) → events_of lane (named lane o) ≡ single o
unfolding single
own lane None = refl
own lane (Some group) = events_of-own lane group

no_events : (n lane other : ℕ) (lists : List (List (List Event))) → other < lane → events_of other (round n lane lists) ≡ []
no_events n lane other [] h = refl
no_events n lane other (groups ∷ rest) h =
    events_of-append other (named lane (slice_get groups n)) (round n (lane + 1) rest)
    ∙ ap₂ (λ a b. a ++ b) (apart lane other (slice_get groups n) (λ e. omega (arith, e, h))) (no_events n (lane + 1) other rest (omega (arith, h)))

events_at : (n lane i : ℕ) (lists : List (List (List Event))) → events_of (lane + i) (round n lane lists) ≡ single (slice_get (list_of lists i) n)
unfolding single
events_at n lane i [] = refl
events_at n lane zero (groups ∷ rest) =
    let e : lane + 0 ≡ lane = omega arith in
    rw e (events_of-append lane (named lane (slice_get groups n)) (round n (lane + 1) rest)
    ∙ ap₂ (λ a b. a ++ b) (own lane (slice_get groups n)) (no_events n (lane + 1) lane rest (omega arith))
    ∙ append-nil (single (slice_get groups n)))
events_at n lane (suc i) (groups ∷ rest) =
    let e : lane + suc i ≡ lane + 1 + i = omega arith in
    events_of-append (lane + suc i) (named lane (slice_get groups n)) (round n (lane + 1) rest)
    ∙ ap₂ (λ a b. a ++ b) (apart lane (lane + suc i) (slice_get groups n) (λ f. omega (arith, f))) (ap (λ k. events_of k (round n (lane + 1) rest)) e ∙ events_at n (lane + 1) i rest)

joined-single : (n : ℕ) (xs : List (List Event)) → joined (take (suc n) xs) ≡ joined (take n xs) ++ single (slice_get xs n)
unfolding single
joined-single zero [] = refl
joined-single (suc n) [] = refl
joined-single zero (x ∷ xs) = append-nil x
joined-single (suc n) (x ∷ xs) = ap (λ z. x ++ z) (joined-single n xs) ∙ sym (append_assoc x (joined (take n xs)) (single (slice_get xs n)))

pub events_below : (n lane : ℕ) (lists : List (List (List Event))) → events_of lane (rounds_below n lists) ≡ joined (take n (list_of lists lane))
events_below zero lane lists = refl
events_below (suc n) lane lists =
    let e : 0 + lane ≡ lane = omega arith in
    events_of-append lane (rounds_below n lists) (round n 0 lists)
    ∙ ap₂ (λ a b. a ++ b) (events_below n lane lists) (ap (λ k. events_of k (round n 0 lists)) (sym e) ∙ events_at n 0 lane lists)
    ∙ sym (joined-single n (list_of lists lane))

short : (lists : List (List (List Event))) (lane : ℕ) → length (list_of lists lane) ≤ longest lists
short [] lane = omega arith
short (groups ∷ rest) zero = omega arith
short (groups ∷ rest) (suc lane) = omega (arith, short rest lane)

pub of_lane : (lists : List (List (List Event))) (lane : ℕ) → events_of lane (rounds lists) ≡ joined (list_of lists lane)
of_lane lists lane = events_below (longest lists) lane lists ∙ ap joined (take_all (longest lists) (list_of lists lane) (short lists lane))

-- what verdicts bring, all together
pub joined-groups : (vs : List Verdict) → joined (groups_of vs) ≡ verdict.events_from vs
joined-groups vs = flat_map-map (λ (group : List Event). group) events_by vs

-- ---- by places and lanes

abbrev spot : ℕ → ℕ → Spot
spot place lane = record { place = place; lane = lane }

abbrev spot_at : ℕ → ℕ → Option (List Event) → List Spot
spot_at place lane None = []
spot_at place lane (Some group) = spot place lane ∷ []

abbrev spots_in : ℕ → ℕ → List (List (List Event)) → List Spot
spots_in place lane [] = []
spots_in place lane (groups ∷ rest) = spot_at place lane (slice_get groups place) ++ spots_in place (lane + 1) rest

abbrev spots_below : ℕ → List (List (List Event)) → List Spot
spots_below zero lists = []
spots_below (suc n) lists = spots_below n lists ++ spots_in n 0 lists

-- the lists from a lane on
abbrev AreFrom : List (List (List Event)) → ℕ → List (List (List Event)) → Type 0
AreFrom all lane lists = (i : ℕ) → list_of lists i ≡ list_of all (lane + i)

from-first : (all : List (List (List Event))) → AreFrom all 0 all
from-first all i = let e : i ≡ 0 + i = omega arith in ap (list_of all) e

here_in : (n lane : ℕ) (o : Option (List Event)) → (group : List Event) × (o ≡ Some group) → Contains (spot_at n lane o) (spot n lane)
here_in n lane None h = absurd (let e = h.1 in cc)
here_in n lane (Some group) h = (0, (omega arith), refl)

module _ (all : List (List (List Event))) where
  from-next : (lane : ℕ) (groups : List (List Event)) (rest : List (List (List Event))) → AreFrom all lane (groups ∷ rest) → AreFrom all (lane + 1) rest
  from-next lane groups rest h i = let e : lane + suc i ≡ lane + 1 + i = omega arith in h (suc i) ∙ ap (list_of all) e

  from-head : (lane : ℕ) (groups : List (List Event)) (rest : List (List (List Event))) → AreFrom all lane (groups ∷ rest) → list_of all lane ≡ groups
  from-head lane groups rest h = let e : lane ≡ lane + 0 = omega arith in ap (list_of all) e ∙ sym (h 0)

  entries_here : (n lane : ℕ) (o : Option (List Event)) → slice_get (list_of all lane) n ≡ o → flat_map (entries_at all) (spot_at n lane o) ≡ named lane o
  entries_here n lane None h = refl
  entries_here n lane (Some group) h = rw h (append-nil (entries_for lane group))

  entries_in : (n lane : ℕ) (lists : List (List (List Event))) → AreFrom all lane lists → flat_map (entries_at all) (spots_in n lane lists) ≡ round n lane lists
  entries_in n lane [] h = refl
  entries_in n lane (groups ∷ rest) h =
      flat_map-append (entries_at all) (spot_at n lane (slice_get groups n)) (spots_in n (lane + 1) rest)
      ∙ ap₂ (λ a b. a ++ b) (entries_here n lane (slice_get groups n) (ap (λ z. slice_get z n) (from-head lane groups rest h))) (entries_in n (lane + 1) rest (from-next lane groups rest h))

  entries_below : (n : ℕ) → flat_map (entries_at all) (spots_below n all) ≡ rounds_below n all
  entries_below zero = refl
  entries_below (suc n) =
      flat_map-append (entries_at all) (spots_below n all) (spots_in n 0 all) ∙ ap₂ (λ a b. a ++ b) (entries_below n) (entries_in n 0 all (from-first all))

  -- what stands in one round
  record IsIn (n lane : ℕ) (s : Spot) : Type 0 where
    pub place_is : s.place ≡ n
    pub from : lane ≤ s.lane
    pub there : IsSpot all s

  there_here : (n lane : ℕ) (o : Option (List Event)) → slice_get (list_of all lane) n ≡ o → All (IsIn n lane) (spot_at n lane o)
  there_here n lane None h = All-nil (IsIn n lane)
  there_here n lane (Some group) h =
      All-cons (IsIn n lane) (spot n lane) [] (record { place_is = refl; from = omega arith; there = slice_get_within (list_of all lane) n group h }) (All-nil (IsIn n lane))

  there_in : (n lane : ℕ) (lists : List (List (List Event))) → AreFrom all lane lists → All (IsIn n lane) (spots_in n lane lists)
  there_in n lane [] h = All-nil (IsIn n lane)
  there_in n lane (groups ∷ rest) h =
      All-append (IsIn n lane) (spot_at n lane (slice_get groups n)) (spots_in n (lane + 1) rest)
      (there_here n lane (slice_get groups n) (ap (λ z. slice_get z n) (from-head lane groups rest h)))
      (All-weaker (IsIn n (lane + 1)) (IsIn n lane) (λ s is. record { place_is = is.place_is; from = omega (arith, is.from); there = is.there }) (spots_in n (lane + 1) rest) (there_in n (lane + 1) rest (from-next lane groups rest h)))

  record IsBelow (n : ℕ) (s : Spot) : Type 0 where
    pub place_below : s.place < n
    pub there : IsSpot all s

  there_below : (n : ℕ) → All (IsBelow n) (spots_below n all)
  there_below zero = All-nil (IsBelow 0)
  there_below (suc n) =
      All-append (IsBelow (suc n)) (spots_below n all) (spots_in n 0 all)
      (All-weaker (IsBelow n) (IsBelow (suc n)) (λ s is. record { place_below = omega (arith, is.place_below); there = is.there }) (spots_below n all) (there_below n))
      (All-weaker (IsIn n 0) (IsBelow (suc n)) (λ s is. record { place_below = omega (arith, is.place_is); there = is.there }) (spots_in n 0 all) (there_in n 0 all (from-first all)))

  each_in : (n lane i : ℕ) (lists : List (List (List Event))) → n < length (list_of lists i) → Contains (spots_in n lane lists) (spot n (lane + i))
  each_in n lane i [] h = absurd (omega (arith, h))
  each_in n lane zero (groups ∷ rest) h =
      let e : lane + 0 ≡ lane = omega arith in
      let here : Contains (spot_at n lane (slice_get groups n)) (spot n lane) = here_in n lane (slice_get groups n) (there_is n groups h) in
      rw e (Contains-append_left (spot_at n lane (slice_get groups n)) (spots_in n (lane + 1) rest) (spot n lane) here)
  each_in n lane (suc i) (groups ∷ rest) h =
      let e : lane + 1 + i ≡ lane + suc i = omega arith in
      Contains-append_right (spot_at n lane (slice_get groups n)) (spots_in n (lane + 1) rest) (spot n (lane + suc i)) (rw e at (each_in n (lane + 1) i rest h))

  each_below : (n : ℕ) (s : Spot) → s.place < n → IsSpot all s → Contains (spots_below n all) s
  each_below zero s lt h = absurd (omega (arith, lt))
  each_below (suc n) s lt h =
      elim (lt_or_same s.place n (omega (arith, lt))) [
        | inl below ↦ Contains-append_left (spots_below n all) (spots_in n 0 all) s (each_below n s below h)
        | inr same ↦
            let e : spot n (0 + s.lane) ≡ s = ap₂ (λ p l. spot p l) (sym same) (let f : 0 + s.lane ≡ s.lane = omega arith in f) in
            let here : Contains (spots_in n 0 all) (spot n (0 + s.lane)) = each_in n 0 s.lane all (let P : ℕ → Type 0 = λ p. p < length (list_of all s.lane) in subst P same h) in
            Contains-append_right (spots_below n all) (spots_in n 0 all) s (subst (λ z. Contains (spots_in n 0 all) z) e here)
      ]

  Rises-append : (xs ys : List Spot) → Rises xs → Rises ys → All (λ x. All (IsBefore x) ys) xs → Rises (xs ++ ys)
  Rises-append [] ys a b c = b
  Rises-append (x ∷ xs) ys a b c = (
    All-append (IsBefore x) xs ys a.0 (All-head (λ z. All (IsBefore z) ys) x xs c),
    Rises-append xs ys a.1 b (All-tail (λ z. All (IsBefore z) ys) x xs c),
  )

  rises_here : (n lane : ℕ) (o : Option (List Event)) (rest : List Spot) → All (IsIn n (lane + 1)) rest → Rises rest → Rises (spot_at n lane o ++ rest)
  rises_here n lane None rest later rises = rises
  rises_here n lane (Some group) rest later rises =
      (All-weaker (IsIn n (lane + 1)) (IsBefore (spot n lane)) (λ s is. inr (sym is.place_is, omega (arith, is.from))) rest later, rises)

  rises_in : (n lane : ℕ) (lists : List (List (List Event))) → AreFrom all lane lists → Rises (spots_in n lane lists)
  rises_in n lane [] h = tt
  rises_in n lane (groups ∷ rest) h =
      rises_here n lane (slice_get groups n) (spots_in n (lane + 1) rest) (there_in n (lane + 1) rest (from-next lane groups rest h)) (rises_in n (lane + 1) rest (from-next lane groups rest h))

  rises_below : (n : ℕ) → Rises (spots_below n all)
  rises_below zero = tt
  rises_below (suc n) =
      Rises-append (spots_below n all) (spots_in n 0 all) (rises_below n) (rises_in n 0 all (from-first all))
      (All-weaker (IsBelow n) (λ x. All (IsBefore x) (spots_in n 0 all)) (λ x is.
      All-weaker (IsIn n 0) (IsBefore x) (λ y in-round. inl (omega (arith, is.place_below, in-round.place_is))) (spots_in n 0 all) (there_in n 0 all (from-first all)))
      (spots_below n all) (there_below n))

pub by_places : (lists : List (List (List Event))) → AreRounds lists (rounds lists)
by_places lists =
    let n : ℕ = longest lists in
    record {
      spots = spots_below n lists;
      there = All-weaker (IsBelow lists n) (IsSpot lists) (λ s is. is.there) (spots_below n lists) (there_below lists n);
      each = λ s h. each_below lists n s (omega (arith, h, short lists s.lane)) h;
      rises = rises_below lists n;
      entries_are = sym (entries_below lists n);
    }

-- ---- there is one such list

contains_cases : (x : Spot) (xs : List Spot) (s : Spot) → Contains (x ∷ xs) s → (x ≡ s) ⊎ Contains xs s
contains_cases x xs s (zero, lt, is) = inl is
contains_cases x xs s (suc k, lt, is) = inr (k, (omega (arith, lt)), is)

before_itself : (a b : Spot) → IsBefore a b → IsBefore b a → ⊥
before_itself a b (inl h) (inl g) = omega (arith, h, g)
before_itself a b (inl h) (inr g) = let e = g.0 in omega (arith, h, e)
before_itself a b (inr h) (inl g) = let e = h.0 in omega (arith, g, e)
before_itself a b (inr h) (inr g) = let e = h.1 in let f = g.1 in omega (arith, e, f)

-- what stands before all that follow is not among them
not_after : (x s : Spot) (xs : List Spot) → All (IsBefore x) xs → Contains xs s → x ≡ s → ⊥
not_after x s xs all has e =
    let here : IsBefore x s = All-contains (IsBefore x) xs s all has in
    let itself : IsBefore x x = subst (IsBefore x) (sym e) here in
    before_itself x x itself itself

abbrev AreAmong : List Spot → List Spot → Type 0
AreAmong xs ys = (s : Spot) → Contains xs s → Contains ys s

tails_among : (x y : Spot) (xs ys : List Spot) → x ≡ y → All (IsBefore x) xs → AreAmong (x ∷ xs) (y ∷ ys) → AreAmong xs ys
tails_among x y xs ys same all among s has =
    elim (contains_cases y ys s (among s (Contains-append_right (x ∷ []) xs s has))) [
      | inl here ↦ absurd (not_after x s xs all has (same ∙ here))
      | inr later ↦ later
    ]

same_spots : (xs ys : List Spot) → Rises xs → Rises ys → AreAmong xs ys → AreAmong ys xs → xs ≡ ys
same_spots [] [] p q a b = refl
same_spots [] (y ∷ ys) p q a b = absurd (let h = (b y (0, (omega arith), refl)).1 in omega (arith, h))
same_spots (x ∷ xs) [] p q a b = absurd (let h = (a x (0, (omega arith), refl)).1 in omega (arith, h))
same_spots (x ∷ xs) (y ∷ ys) p q a b =
    let same : x ≡ y =
    elim (contains_cases y ys x (a x (0, (omega arith), refl))) [
      | inl e ↦ sym e
      | inr following-y ↦ elim (contains_cases x xs y (b y (0, (omega arith), refl))) [
        | inl e ↦ e
        | inr following-x ↦ absurd (before_itself x y (All-contains (IsBefore x) xs y p.0 following-x) (All-contains (IsBefore y) ys x q.0 following-y))
      ]
    ] in
    ap₂ (λ z zs. z ∷ zs) same (same_spots xs ys p.1 q.1 (tails_among x y xs ys same p.0 a) (tails_among y x ys xs (sym same) q.0 b))

pub rounds_alone : (lists : List (List (List Event))) (entries : List Entry) → AreRounds lists entries → entries ≡ rounds lists
rounds_alone lists entries h =
    let own = by_places lists in
    let same : h.spots ≡ own.spots = same_spots h.spots own.spots h.rises own.rises
    (λ s has. own.each s (All-contains (IsSpot lists) h.spots s h.there has))
    (λ s has. h.each s (All-contains (IsSpot lists) own.spots s own.there has)) in
    h.entries_are ∙ (ap (λ ss. flat_map (entries_at lists) ss) same ∙ sym own.entries_are)
