-- Marks and turns of a queue.
use Rattle.std.proofs.Common.{◌≡◌, ◌≢◌, ◌⊎◌, ℕ, zero, suc, ◌+◌, ◌<◌, ◌≤◌, ◌==◌, Bool, true, false, not, ◌&&◌, ◌||◌, if◌then◌else◌, List, [], ◌∷◌, ◌++◌, length, get_or, set, take, slice_get, Option, Some, None, refl, sym, ap, subst, ◌∙◌, inl, inr, arith, get_or-set_other, get_or-set_same, length-set, length-append}
use Rattle.std.proofs.lemmas.Bool.{and_parts, or_parts, or_cases, or_left, or_right, or_from, and_from, not-true, not_from_false, false≢true, true≢false, cases_Bool, cases_eq, eq-eqb, ne_eqb, eqb-false}
use Rattle.std.proofs.lemmas.List.{get_or_past, take-take, take-append-le, take_all}
use Rattle.std.proofs.lemmas.List.Folds.{list_any-append}
use Rattle.krb_engine.specs.Queue.{has, with_session, is_distinct, IsMarked}
use Rattle.krb_engine.specs.QueueLaws.{Turn, Ready, Serve, without_first, first_of, after_turn, after_turns, served, services, ServedInTurn, EachWaitsOnce, NoneOvertakes, NoneIsLost}

-- ---- one session more, or less

has-append : (queue : List ℕ) (session it : ℕ) → has (queue ++ session ∷ []) it ≡ (has queue it || (session == it))
has-append queue session it = list_any-append (λ k. k == it) queue (session ∷ []) ∙ ap (λ b. has queue it || b) (or_none (session == it))
  where
    or_none : (b : Bool) → (b || false) ≡ b
    or_none true = refl
    or_none false = refl

distinct_append : (queue : List ℕ) (session : ℕ) → is_distinct queue ≡ true → has queue session ≡ false → is_distinct (queue ++ session ∷ []) ≡ true
distinct_append [] session once none = refl
distinct_append (it ∷ queue) session once none =
    let parts = and_parts (not (has queue it)) (is_distinct queue) once in
    let nones = or_parts (it == session) (has queue session) none in
    let apart : (session == it) ≡ false = ne_eqb session it (λ same. eqb-false it session nones.0 (sym same)) in
    let front : has (queue ++ session ∷ []) it ≡ false = has-append queue session it ∙ or_from (has queue it) (session == it) (not-true _ parts.0) apart in
    and_from (not (has (queue ++ session ∷ []) it)) (is_distinct (queue ++ session ∷ [])) (not_from_false _ front) (distinct_append queue session parts.1 nones.1)

pub marked_push : (queue : List ℕ) (marks : List Bool) (session : ℕ) → IsMarked queue marks → session < length marks → get_or marks session false ≡ false
    → IsMarked (queue ++ session ∷ []) (set marks session true)
marked_push queue marks session is lt none = record {
  marked = λ it. elim (cases_eq it session) [
    | inl same ↦
        let mark : get_or (set marks session true) it false ≡ true = (subst (λ k. get_or (set marks session true) k false ≡ true) (sym same) (get_or-set_same marks session true false lt)) in
        mark ∙ sym (has-append queue session it ∙ or_right (has queue it) (session == it) (eq-eqb session it (sym same)))
    | inr apart ↦
        let mark : get_or (set marks session true) it false ≡ has queue it = get_or-set_other marks session it true false apart ∙ is.marked it in
        let other : (session == it) ≡ false = ne_eqb session it (λ same. apart (sym same)) in
        mark ∙ sym (has-append queue session it ∙ or_no (has queue it) (session == it) other)
  ];
  distinct = distinct_append queue session is.distinct (sym (is.marked session) ∙ none);
}
  where
    or_no : (a b : Bool) → b ≡ false → (a || b) ≡ a
    or_no true b is_not = refl
    or_no false b is_not = is_not

pub marked_pop : (session : ℕ) (queue : List ℕ) (marks : List Bool) → IsMarked (session ∷ queue) marks → IsMarked queue (set marks session false)
marked_pop session queue marks is =
    let parts = and_parts (not (has queue session)) (is_distinct queue) is.distinct in record {
      marked = λ it. elim (cases_eq it session) [
        | inl same ↦
            let mark : get_or (set marks session false) it false ≡ false = subst (λ k. get_or (set marks session false) k false ≡ false) (sym same) (unmarked (cases_lt_length marks session)) in
            let gone : has queue it ≡ false = subst (λ k. has queue k ≡ false) (sym same) (not-true _ parts.0) in
            mark ∙ sym gone
        | inr apart ↦
            let other : (session == it) ≡ false = ne_eqb session it (λ same. apart (sym same)) in
            get_or-set_other marks session it false false apart ∙ (is.marked it ∙ no_or (session == it) (has queue it) other)
      ];
      distinct = parts.1;
    }
  where
    no_or : (a b : Bool) → a ≡ false → (a || b) ≡ b
    no_or true b is_not = absurd (true≢false is_not)
    no_or false b is_not = refl

    cases_lt_length : (marks : List Bool) (k : ℕ) → (k < length marks) ⊎ (length marks ≤ k)
    cases_lt_length marks k = lt_or (length marks) k
      where
        lt_or : (n k : ℕ) → (k < n) ⊎ (n ≤ k)
        lt_or n k = grind arith

    unmarked : (session < length marks) ⊎ (length marks ≤ session) → get_or (set marks session false) session false ≡ false
    unmarked (inl lt) = get_or-set_same marks session false false lt
    unmarked (inr le) = get_or_past (set marks session false) session false (omega (arith, length-set marks session false))

-- a session that waits has a mark
pub has_mark : (session : ℕ) (queue : List ℕ) (marks : List Bool) → IsMarked (session ∷ queue) marks → session < length marks
has_mark session queue marks is = elim (cases_below (length marks) session) [
  | inl lt ↦ lt
  | inr le ↦
      let marked : get_or marks session false ≡ true = is.marked session ∙ or_left (session == session) (has queue session) (eq-eqb session session refl) in
      absurd (false≢true (sym (get_or_past marks session false le) ∙ marked))
]
  where
    cases_below : (n k : ℕ) → (k < n) ⊎ (n ≤ k)
    cases_below n k = grind arith

-- ---- turns

get_append : (queue more : List ℕ) (place session : ℕ) → slice_get queue place ≡ Some session → slice_get (queue ++ more) place ≡ Some session
get_append [] more place session is = absurd (let e : None ≡ Some session = is in cc)
get_append (it ∷ queue) more zero session is = is
get_append (it ∷ queue) more (suc place) session is = get_append queue more place session is

get_with : (queue : List ℕ) (it place session : ℕ) → slice_get queue place ≡ Some session → slice_get (with_session queue it) place ≡ Some session
get_with queue it place session is = by_test (has queue it)
  where
    by_test : (b : Bool) → slice_get (if b then queue else queue ++ it ∷ []) place ≡ Some session
    by_test true = is
    by_test false = get_append queue (it ∷ []) place session is

pub served_in_turn : ServedInTurn
served_in_turn queue [] place session is lt = absurd (omega (arith, lt))
served_in_turn queue (Ready it ∷ turns) place session is lt = served_in_turn (with_session queue it) turns place session (get_with queue it place session is) lt
served_in_turn [] (Serve ∷ turns) place session is lt = absurd (let e : None ≡ Some session = is in cc)
served_in_turn (it ∷ queue) (Serve ∷ turns) zero session is lt = is
served_in_turn (it ∷ queue) (Serve ∷ turns) (suc place) session is lt = served_in_turn queue turns place session is (omega (arith, lt))

once_with : (queue : List ℕ) (it : ℕ) → is_distinct queue ≡ true → is_distinct (with_session queue it) ≡ true
once_with queue it once = by_test (has queue it) refl
  where
    by_test : (b : Bool) → has queue it ≡ b → is_distinct (if b then queue else queue ++ it ∷ []) ≡ true
    by_test true is = once
    by_test false is = distinct_append queue it once is

pub each_once : EachWaitsOnce
each_once queue [] once = once
each_once queue (Ready it ∷ turns) once = each_once (with_session queue it) turns (once_with queue it once)
each_once [] (Serve ∷ turns) once = each_once [] turns once
each_once (it ∷ queue) (Serve ∷ turns) once = each_once queue turns (and_parts (not (has queue it)) (is_distinct queue) once).1

has_with : (queue : List ℕ) (it session : ℕ) → has queue session ≡ true → has (with_session queue it) session ≡ true
has_with queue it session is = by_test (has queue it)
  where
    by_test : (b : Bool) → has (if b then queue else queue ++ it ∷ []) session ≡ true
    by_test true = is
    by_test false = has-append queue it session ∙ or_left (has queue session) (it == session) is

pub none_lost : NoneIsLost
none_lost queue [] session is = inr is
none_lost queue (Ready it ∷ turns) session is = none_lost (with_session queue it) turns session (has_with queue it session is)
none_lost [] (Serve ∷ turns) session is = absurd (false≢true is)
none_lost (it ∷ queue) (Serve ∷ turns) session is = elim (or_cases (it == session) (has queue session) is) [
  | inl first ↦ inl (or_left (it == session) (has (served queue turns) session) first)
  | inr later ↦ elim (none_lost queue turns session later) [
    | inl was ↦ inl (or_right (it == session) (has (served queue turns) session) was)
    | inr waits ↦ inr waits
  ]
]

-- ---- none is served twice before all were

take_none : (n : ℕ) → take n (let none : List ℕ = [] in none) ≡ []
take_none zero = refl
take_none (suc n) = refl

take_with : (queue : List ℕ) (it n : ℕ) → n ≤ length queue → take n (with_session queue it) ≡ take n queue
take_with queue it n le = by_test (has queue it)
  where
    by_test : (b : Bool) → take n (if b then queue else queue ++ it ∷ []) ≡ take n queue
    by_test true = refl
    by_test false = take-append-le n queue (it ∷ []) le

length_with : (queue : List ℕ) (it : ℕ) → length queue ≤ length (with_session queue it)
length_with queue it = by_test (has queue it)
  where
    by_test : (b : Bool) → length queue ≤ length (if b then queue else queue ++ it ∷ [])
    by_test true = omega arith
    by_test false = omega (arith, length-append queue (it ∷ []))

take_swap : (m n : ℕ) (list : List ℕ) → take m (take n list) ≡ take n (take m list)
take_swap zero n list = sym (take_none n)
take_swap (suc m) zero list = refl
take_swap (suc m) (suc n) [] = refl
take_swap (suc m) (suc n) (it ∷ list) = ap (λ l. it ∷ l) (take_swap m n list)

-- of those that wait, as many were served as services came, in order
first_served : (queue : List ℕ) (turns : List Turn) → take (length queue) (served queue turns) ≡ take (services turns) queue
first_served queue [] = take_none (length queue)
first_served queue (Ready it ∷ turns) =
    let more = with_session queue it in
    sym (take-take (length queue) (length more) (served more turns) (length_with queue it))
    ∙ (ap (λ l. take (length queue) l) (first_served more turns)
    ∙ (take_swap (length queue) (services turns) more
    ∙ ap (λ l. take (services turns) l) (take_with queue it (length queue) (omega arith) ∙ take_all (length queue) queue (omega arith))))
first_served [] (Serve ∷ turns) = refl
first_served (it ∷ queue) (Serve ∷ turns) = ap (λ l. it ∷ l) (first_served queue turns)

has_take : (n : ℕ) (queue : List ℕ) (session : ℕ) → has queue session ≡ false → has (take n queue) session ≡ false
has_take zero queue session none = refl
has_take (suc n) [] session none = refl
has_take (suc n) (it ∷ queue) session none =
    let parts = or_parts (it == session) (has queue session) none in
    or_from (it == session) (has (take n queue) session) parts.0 (has_take n queue session parts.1)

distinct_take : (n : ℕ) (queue : List ℕ) → is_distinct queue ≡ true → is_distinct (take n queue) ≡ true
distinct_take zero queue once = refl
distinct_take (suc n) [] once = refl
distinct_take (suc n) (it ∷ queue) once =
    let parts = and_parts (not (has queue it)) (is_distinct queue) once in
    and_from (not (has (take n queue) it)) (is_distinct (take n queue)) (not_from_false _ (has_take n queue it (not-true _ parts.0))) (distinct_take n queue parts.1)

pub none_overtakes : NoneOvertakes
none_overtakes queue turns once = subst (λ l. is_distinct l ≡ true) (sym (first_served queue turns)) (distinct_take (services turns) queue once)
