-- What is to be done, and how rarely it is done again.
use Rattle.std.proofs.Common.{◌≡◌, ◌≢◌, ◌⊎◌, ℕ, zero, suc, ◌+◌, ◌-◌, ◌<◌, ◌≤◌, ◌==◌, nat_lt, nat_le, ◌&&◌, ◌||◌, not, cond, if◌then◌else◌, min, max, Bool, true, false, Option, Some, None, List, [], ◌∷◌, length, refl, sym, ap, subst, ◌∙◌, inl, inr, arith}
use Rattle.std.specs.Prelude.{is_some, count_by}
use Rattle.std.proofs.lemmas.Bool.{cases_lt, cases_eq, cases_Bool, and_parts, or_parts, ltb-true, ltb-false, leb-true, lt-ltb, le-ltb, le-leb, lt-leb, eq-eqb, eqb-true, true≢false, false≢true}
use Rattle.std.proofs.lemmas.List.Sums.{sum_by-cons}
use Rattle.krb_engine.specs.declared.pause.Pause.{Pause}
use Rattle.krb_engine.specs.Pause.{begun, longer}
use Rattle.krb_engine.specs.QueueLaws.{pauses}
use Rattle.krb_engine.proofs.PauseLemmas.{pauses_from, undoubled}
use Rattle.krb_engine.specs.declared.sending.Command.{Command}
use Rattle.krb_engine.specs.declared.sending.Command.TheVariants.{Publish, Probe, Wake, Idle}
use Rattle.krb_engine.specs.Limits.{window_most, service_most, again_most, probe_most, room_pause}
use Rattle.krb_engine.specs.SendingState.{SendingState, IsEnd}
use Rattle.krb_engine.specs.Sending.{is_over, never, end_of, may_ask, is_lost, lost, looked, is_settled, recovery_room, batch, is_free, published, is_unanswered, probed, ask_end, held_end, again_end, probe_end, room_end, wake_time}
use Rattle.krb_engine.specs.Calls.{Serves, Rests}
use Rattle.krb_engine.proofs.LivenessLemmas.{wakes_are_to_come}
use Rattle.krb_engine.specs.Laws.{EndsAt, Again, Unanswered, Asked, Full, HasSomethingToDo, NothingStandsStill, EachServiceIsSmall, Service, LeadsServed, is_probe, leaves, copies, CopiesAreFew, RepeatsAreRare, ProbesAreRare}

-- ---- the first of the times at which a pause is over

module _ (state : SendingState) (room now : ℕ) where
  -- a time at which one is over, or none
  abbrev Time : ℕ → Type 0
  Time at = EndsAt state room now at ⊎ (at ≡ never)

  first_of : (x y : ℕ) → EndsAt state room now x → x ≤ never → Time y → EndsAt state room now (min x y)
  first_of x y ends le (inr is) = subst (EndsAt state room now) (omega (arith, le, is)) ends
  first_of x y ends le (inl other) = elim (cases_lt x y) [
    | inl lt ↦ subst (EndsAt state room now) (omega (arith, lt)) ends
    | inr ge ↦ subst (EndsAt state room now) (omega (arith, ge)) other
  ]

  second_of : (x y : ℕ) → Time x → EndsAt state room now y → y ≤ never → EndsAt state room now (min x y)
  second_of x y time ends le = subst (EndsAt state room now) (let turned : min y x ≡ min x y = omega arith in turned) (first_of y x ends le time)

  one_of : (x y : ℕ) → x ≤ never → y ≤ never → Time x → Time y → Time (min x y)
  one_of x y lx ly (inl ends) time = inl (first_of x y ends lx time)
  one_of x y lx ly (inr is) (inl ends) = inl (second_of x y (inr is) ends ly)
  one_of x y lx ly (inr is) (inr too) = inr (omega (arith, is, too))

  end_le : (pause : Pause) → end_of pause ≤ never
  end_le pause = omega arith

  ask_time : (ask : Option Pause) → state.ask ≡ ask → Time (ask_end ask)
  ask_time None is = inr refl
  ask_time (Some pause) is = inl (Asked pause is refl)

  ask_le : (ask : Option Pause) → ask_end ask ≤ never
  ask_le None = omega arith
  ask_le (Some pause) = end_le pause

  room_time : Time (room_end room now)
  room_time = by_test (room == 0) refl
    where
      by_test : (b : Bool) → (room == 0) ≡ b → Time (if b then end_of (begun room_pause now) else never)
      by_test true is = inl (Full (eqb-true room 0 is) refl)
      by_test false is = inr refl

  room_le : room_end room now ≤ never
  room_le = by_test (room == 0)
    where
      by_test : (b : Bool) → (if b then end_of (begun room_pause now) else never) ≤ never
      by_test true = omega arith
      by_test false = omega arith

  held_time : (count : ℕ) → Time (held_end state count)
  held_time count = by_test (nat_lt 0 count)
    where
      by_test : (b : Bool) → Time (if b then ask_end state.ask else never)
      by_test true = ask_time state.ask refl
      by_test false = inr refl

  held_le : (count : ℕ) → held_end state count ≤ never
  held_le count = by_test (nat_lt 0 count)
    where
      by_test : (b : Bool) → (if b then ask_end state.ask else never) ≤ never
      by_test true = ask_le state.ask
      by_test false = omega arith

  again_time : Time (again_end state)
  again_time = by_test (nat_lt state.progress.carried state.progress.sent)
    where
      by_test : (b : Bool) → Time (if b then end_of state.again else never)
      by_test true = inl (Again refl)
      by_test false = inr refl

  again_le : again_end state ≤ never
  again_le = by_test (nat_lt state.progress.carried state.progress.sent)
    where
      by_test : (b : Bool) → (if b then end_of state.again else never) ≤ never
      by_test true = end_le state.again
      by_test false = omega arith

  probe_time : Time (probe_end state)
  probe_time = by_test (nat_lt state.done state.progress.carried)
    where
      by_test : (b : Bool) → Time (if b then end_of state.probe else never)
      by_test true = inl (Unanswered refl)
      by_test false = inr refl

  probe_le : probe_end state ≤ never
  probe_le = by_test (nat_lt state.done state.progress.carried)
    where
      by_test : (b : Bool) → (if b then end_of state.probe else never) ≤ never
      by_test true = end_le state.probe
      by_test false = omega arith

  -- ---- one of them is there

  unanswered_ends : state.done < state.progress.carried → EndsAt state room now (probe_end state)
  unanswered_ends lt = Unanswered (ap (λ b. if b then end_of state.probe else never) (lt-ltb state.done state.progress.carried lt))

  again_ends : state.progress.carried < state.progress.sent → EndsAt state room now (again_end state)
  again_ends lt = Again (ap (λ b. if b then end_of state.again else never) (lt-ltb state.progress.carried state.progress.sent lt))

  -- a refusal that holds it back has its pause
  held_ends : (count : ℕ) → 0 < count → is_free state now ≡ false → EndsAt state room now (held_end state count)
  held_ends count some held =
      subst (EndsAt state room now) (sym (ap (λ b. if b then ask_end state.ask else never) (lt-ltb 0 count some))) (by_ask state.ask refl (or_parts (not state.is_held) (may_ask state.ask now) held).1)
    where
      by_ask : (ask : Option Pause) → state.ask ≡ ask → may_ask ask now ≡ false → EndsAt state room now (ask_end ask)
      by_ask None is none = absurd (true≢false none)
      by_ask (Some pause) is none = Asked pause is refl

  -- if nothing is under way or unanswered, something may leave
  has_batch : 0 < room → 0 < state.window → state.progress.sent ≤ state.progress.carried → state.progress.carried ≤ state.done → state.progress.sent < state.progress.next → state.done ≤ state.progress.carried
      → state.progress.carried ≤ state.progress.sent → 0 < batch state room
  has_batch some window a b c d e = omega (arith, by_test (nat_lt state.done state.recovers), some, window, a, b, c, d, e)
    where
      by_test : (t : Bool) → 0 < (if t then state.done + state.window - state.progress.sent else service_most)
      by_test true = omega (arith, window, a, b, d, e)
      by_test false = omega arith

  not_done : is_settled state ≡ false → state.done ≢ state.progress.next
  not_done is same =
      let parts = or_parts (is_some state.ended) (state.done == state.progress.next) is in
      true≢false (sym (eq-eqb state.done state.progress.next same) ∙ parts.1)

  full_ends : room ≡ 0 → EndsAt state room now (room_end room now)
  full_ends none = Full none (ap (λ b. if b then end_of (begun room_pause now) else never) (eq-eqb room 0 none))

  rest_le : (count : ℕ) → min (held_end state count) (min (again_end state) (probe_end state)) ≤ never
  rest_le count = omega (arith, held_le count)

  rest_time : (count : ℕ) → Time (min (held_end state count) (min (again_end state) (probe_end state)))
  rest_time count =
      one_of (held_end state count) (min (again_end state) (probe_end state)) (held_le count) (omega (arith, again_le)) (held_time count)
      (one_of (again_end state) (probe_end state) again_le probe_le again_time probe_time)

  -- with room one of its own pauses is over then
  rest_ends : IsEnd state → is_settled state ≡ false → 0 < room → Rests state room now
      → EndsAt state room now (min (held_end state (batch state room)) (min (again_end state) (probe_end state)))
  rest_ends is unsettled some rests =
      let count = batch state room in
      elim (cases_lt state.done state.progress.carried) [
        | inl due ↦
            second_of (held_end state count) (min (again_end state) (probe_end state)) (held_time count)
            (second_of (again_end state) (probe_end state) again_time (unanswered_ends due) probe_le) (omega (arith, probe_le))
        | inr all ↦ elim (cases_lt state.progress.carried state.progress.sent) [
          | inl under_way ↦
              second_of (held_end state count) (min (again_end state) (probe_end state)) (held_time count)
              (first_of (again_end state) (probe_end state) (again_ends under_way) again_le probe_time) (omega (arith, again_le))
          | inr none ↦
              let differ = not_done unsettled in
              let more : state.progress.sent < state.progress.next = omega (arith, all, none, is.done, is.carried, is.sent, differ) in
              let positive : 0 < count = has_batch some is.window none all more is.done is.carried in
              first_of (held_end state count) (min (again_end state) (probe_end state)) (held_ends count positive (held rests positive)) (held_le count)
              (one_of (again_end state) (probe_end state) again_le probe_le again_time probe_time)
        ]
      ]
    where
      held : Rests state room now → 0 < batch state room → is_free state now ≡ false
      held (inl none) some = absurd (omega (arith, none, some))
      held (inr is) some = is

  wakes : IsEnd state → is_settled state ≡ false → Rests state room now → EndsAt state room now (wake_time state (batch state room) room now)
  wakes is unsettled rests =
      let count = batch state room in
      let rest = min (held_end state count) (min (again_end state) (probe_end state)) in
      elim (cases_lt 0 room) [
        | inl some ↦ second_of (room_end room now) rest room_time (rest_ends is unsettled some rests) (rest_le count)
        | inr none ↦ first_of (room_end room now) rest (full_ends (omega (arith, none))) room_le (rest_time count)
      ]

-- ---- what wasn't confirmed in time changes neither

looked_end : (old : SendingState) (now : ℕ) → IsEnd old → IsEnd (looked old now)
looked_end old now is = by_test (is_lost old now)
  where
    by_test : (t : Bool) → IsEnd (if t then lost old now else old)
    by_test true = record {
      done = is.done;
      carried = omega arith;
      sent = omega (arith, is.carried, is.sent);
      window = omega (arith, is.window);
    }
    by_test false = is

looked_settled : (old : SendingState) (now : ℕ) → is_settled (looked old now) ≡ is_settled old
looked_settled old now = by_test (is_lost old now)
  where
    by_test : (t : Bool) → is_settled (if t then lost old now else old) ≡ is_settled old
    by_test true = refl
    by_test false = refl

looked_numbers : (old : SendingState) (now : ℕ) → ((looked old now).progress.next ≡ old.progress.next) × ((looked old now).progress.carried ≡ old.progress.carried)
looked_numbers old now = by_test (is_lost old now)
  where
    by_test : (t : Bool) → ((if t then lost old now else old).progress.next ≡ old.progress.next) × ((if t then lost old now else old).progress.carried ≡ old.progress.carried)
    by_test true = (refl, refl)
    by_test false = (refl, refl)

has_something : (state : SendingState) (room now : ℕ) (command : Command) (new : SendingState) → IsEnd state → is_settled state ≡ false → ((at : ℕ) → Serves state room now (Wake at) new → now < at)
    → Serves state room now command new → HasSomethingToDo state room now command
has_something state room now (Publish from count) new is unsettled to_come serves = (omega (arith, serves.4, is.done, is.carried), serves.1)
has_something state room now (Probe number opening) new is unsettled to_come serves =
    let due = and_parts (nat_lt state.done state.progress.carried) (is_over state.probe now) serves.2 in
    omega (arith, ltb-true state.done state.progress.carried due.0, (serves.3).0)
has_something state room now (Wake at) new is unsettled to_come serves =
    (subst (EndsAt state room now) (sym serves.3) (wakes state room now is unsettled serves.1), to_come at serves)
has_something state room now Idle new is unsettled to_come serves = true≢false (sym serves.0 ∙ unsettled)

pub nothing_stands_still : NothingStandsStill
nothing_stands_still old room now command new is unsettled early serves =
    has_something (looked old now) room now command new (looked_end old now is) (looked_settled old now ∙ unsettled) (λ at wakes. wakes_are_to_come old room now at new early wakes) serves

pub each_service_is_small : EachServiceIsSmall
each_service_is_small old room now from count new is serves =
    let its = looked_end old now is in
    let numbers = looked_numbers old now in
    (omega (arith, serves.3), omega (arith, serves.3), omega (arith, serves.1, serves.3, serves.4, its.sent, numbers.0), omega (arith, serves.1, serves.3, serves.4, its.carried, numbers.1))

-- ---- patience

abbrev losses : List Service → ℕ
losses services = count_by (λ (it : Service). it.is_lost) services

losses_more : (it : Service) (services : List Service) (b : Bool) → it.is_lost ≡ b → losses (it ∷ services) ≡ cond b 1 0 + losses services
losses_more it services b is = sum_by-cons (λ (one : Service). cond one.is_lost 1 0) it services ∙ ap (λ t. cond t 1 0 + losses services) is

looked_is : (old : SendingState) (now : ℕ) (b : Bool) → is_lost old now ≡ b → looked old now ≡ (if b then lost old now else old)
looked_is old now b is = ap (λ t. if t then lost old now else old) is

-- ---- copies

-- a frame that is published may leave again only after a loss
abbrev allowed : ℕ → ℕ → ℕ
allowed number sent = if nat_lt number sent then 0 else 1

-- what leaves from where it was published up to, and what may leave then
leaves_once : (number from count : ℕ) → leaves number (Publish from count) + allowed number (from + count) ≤ allowed number from
leaves_once number from count = elim (cases_lt number from) [
  | inl below ↦
      let a : allowed number from ≡ 0 = ap (λ t. if t then 0 else 1) (lt-ltb number from below) in
      let b : allowed number (from + count) ≡ 0 = ap (λ t. if t then 0 else 1) (lt-ltb number (from + count) (omega (arith, below))) in
      let c : leaves number (Publish from count) ≡ 0 = ap (λ t. if t && nat_lt number (from + count) then 1 else 0) (lt-leb from number below) in
      omega (arith, a, b, c)
  | inr above ↦
      let a : allowed number from ≡ 1 = ap (λ t. if t then 0 else 1) (le-ltb number from above) in
      let c : leaves number (Publish from count) ≡ (if nat_lt number (from + count) then 1 else 0) = ap (λ t. if t && nat_lt number (from + count) then 1 else 0) (le-leb from number above) in
      omega (arith, a, c, one_or_none (nat_lt number (from + count)))
]
  where
    one_or_none : (t : Bool) → (if t then 1 else 0) + (if t then 0 else 1) ≤ 1
    one_or_none true = omega arith
    one_or_none false = omega arith

allowed_le : (number sent : ℕ) → allowed number sent ≤ 1
allowed_le number sent = by_test (nat_lt number sent)
  where
    by_test : (t : Bool) → (if t then 0 else 1) ≤ 1
    by_test true = omega arith
    by_test false = omega arith

leaves_in_turn : (number : ℕ) (state : SendingState) (room now : ℕ) (command : Command) (new : SendingState) → Serves state room now command new
    → leaves number command + allowed number new.progress.sent ≤ allowed number state.progress.sent
leaves_in_turn number state room now (Publish from count) new serves =
    let sent : new.progress.sent ≡ from + count = ap (λ (s : SendingState). s.progress.sent) serves.5 ∙ ap (λ n. n + count) (sym serves.4) in
    omega (arith, leaves_once number from count, ap (λ n. allowed number n) sent, ap (λ n. allowed number n) serves.4)
leaves_in_turn number state room now (Probe other opening) new serves = omega (arith, ap (λ (s : SendingState). allowed number s.progress.sent) serves.4)
leaves_in_turn number state room now (Wake at) new serves = omega (arith, ap (λ (s : SendingState). allowed number s.progress.sent) serves.4)
leaves_in_turn number state room now Idle new serves = omega (arith, ap (λ (s : SendingState). allowed number s.progress.sent) serves.1)

few_more : (old between : SendingState) (it : Service) (services : List Service) (number : ℕ) (b : Bool) → is_lost old it.now ≡ b → it.is_lost ≡ is_lost old it.now → Serves (looked old it.now) it.room it.now it.command between
    → copies number services ≤ allowed number between.progress.sent + losses services → copies number (it ∷ services) ≤ allowed number old.progress.sent + losses (it ∷ services)
few_more old between it services number true is said serves rest =
    let step = leaves_in_turn number (looked old it.now) it.room it.now it.command between serves in
    omega (arith, rest, step, allowed_le number (looked old it.now).progress.sent, losses_more it services true (said ∙ is))
few_more old between it services number false is said serves rest =
    let step = leaves_in_turn number (looked old it.now) it.room it.now it.command between serves in
    omega (arith, rest, step, ap (λ (s : SendingState). allowed number s.progress.sent) (looked_is old it.now false is), losses_more it services false (said ∙ is))

few : (old : SendingState) (services : List Service) (new : SendingState) (number : ℕ) → LeadsServed old services new → copies number services ≤ allowed number old.progress.sent + losses services
few old [] new number leads = omega arith
few old (it ∷ services) new number leads =
    few_more old (leads.2).0 it services number (is_lost old it.now) refl leads.1 (leads.2).1 (few (leads.2).0 services new number (leads.2).2)

pub copies_are_few : CopiesAreFew
copies_are_few old services new number leads = omega (arith, few old services new number leads, allowed_le number old.progress.sent)

-- ---- pauses

-- a service begins the time of what is under way anew, or leaves it
served_again : (state : SendingState) (room now : ℕ) (command : Command) (new : SendingState) → Serves state room now command new → state.again.since ≤ now
    → (state.again.since ≤ new.again.since) × (new.again.length ≡ state.again.length)
served_again state room now (Publish from count) new serves le =
    let is : new.again ≡ (published state count now).again = ap (λ (s : SendingState). s.again) serves.5 in
    let both = by_test (state.progress.sent == state.progress.carried) in
    (omega (arith, ap (λ (p : Pause). p.since) is, both.0), ap (λ (p : Pause). p.length) is ∙ both.1)
  where
    by_test : (t : Bool) → (state.again.since ≤ (if t then record state.again { since = now } else state.again).since) × ((if t then record state.again { since = now } else state.again).length ≡ state.again.length)
    by_test true = (le, refl)
    by_test false = (omega arith, refl)
served_again state room now (Probe number opening) new serves le =
    (omega (arith, ap (λ (s : SendingState). s.again.since) serves.4), ap (λ (s : SendingState). s.again.length) serves.4)
served_again state room now (Wake at) new serves le =
    (omega (arith, ap (λ (s : SendingState). s.again.since) serves.4), ap (λ (s : SendingState). s.again.length) serves.4)
served_again state room now Idle new serves le =
    (omega (arith, ap (λ (s : SendingState). s.again.since) serves.1), ap (λ (s : SendingState). s.again.length) serves.1)

rare_more : (old between : SendingState) (it : Service) (services : List Service) (since : ℕ) (b : Bool) → is_lost old it.now ≡ b → it.is_lost ≡ is_lost old it.now → old.again.since ≤ it.now → old.again.length ≤ again_most
    → Serves (looked old it.now) it.room it.now it.command between
    → (between.again.length ≤ again_most → between.again.since + pauses again_most between.again.length (losses services) ≤ since)
    → old.again.since + pauses again_most old.again.length (losses (it ∷ services)) ≤ since
rare_more old between it services since true is said le fits served rest =
    let serves = subst (λ s. Serves s it.room it.now it.command between) (looked_is old it.now true is) served in
    let after = served_again (lost old it.now) it.room it.now it.command between serves (omega arith) in
    let over = leb-true (old.again.since + old.again.length) it.now (and_parts (nat_lt old.progress.carried old.progress.sent) (is_over old.again it.now) is).1 in
    let more : losses (it ∷ services) ≡ suc (losses services) = (let e = losses_more it services true (said ∙ is) in omega (arith, e)) in
    omega (
      arith,
      rest (omega (arith, after.1)),
      after.0,
      over,
      undoubled again_most old.again.length fits,
      pauses_from again_most old.again.length (losses services),
      ap (λ n. pauses again_most old.again.length n) more,
      ap (λ n. pauses again_most n (losses services)) after.1,
    )
rare_more old between it services since false is said le fits served rest =
    let serves = subst (λ s. Serves s it.room it.now it.command between) (looked_is old it.now false is) served in
    let after = served_again old it.room it.now it.command between serves le in
    let more : losses (it ∷ services) ≡ losses services = (let e = losses_more it services false (said ∙ is) in omega (arith, e)) in
    omega (
      arith,
      rest (omega (arith, after.1, fits)),
      after.0,
      ap (λ n. pauses again_most old.again.length n) more,
      ap (λ n. pauses again_most n (losses services)) after.1,
    )

pub repeats_are_rare : RepeatsAreRare
repeats_are_rare old [] new leads fits = omega (arith, ap (λ (s : SendingState). s.again.since) leads)
repeats_are_rare old (it ∷ services) new leads fits =
    rare_more old (leads.2).0 it services new.again.since (is_lost old it.now) refl leads.1 leads.0 fits (leads.2).1
    (λ within. repeats_are_rare (leads.2).0 services new (leads.2).2 within)

abbrev probes : List Service → ℕ
probes services = count_by (λ (it : Service). is_probe it.command) services

looked_probe : (old : SendingState) (now : ℕ) → (looked old now).probe ≡ old.probe
looked_probe old now = by_test (is_lost old now)
  where
    by_test : (t : Bool) → (if t then lost old now else old).probe ≡ old.probe
    by_test true = refl
    by_test false = refl

-- a service without a probe leaves its pause
probes_step : (old : SendingState) (room now : ℕ) (command : Command) (between : SendingState) (count since : ℕ) → old.probe.length ≤ probe_most → Serves (looked old now) room now command between
    → (between.probe.length ≤ probe_most → between.probe.since + pauses probe_most between.probe.length count ≤ since)
    → old.probe.since + pauses probe_most old.probe.length (cond (is_probe command) 1 0 + count) ≤ since
probes_step old room now command between count since fits serves rest = by_command command serves
  where
    kept : between.probe ≡ old.probe → old.probe.since + pauses probe_most old.probe.length (0 + count) ≤ since
    kept same =
        let none : 0 + count ≡ count = omega arith in
        omega (arith, rest (omega (arith, ap (λ (p : Pause). p.length) same, fits)), ap (λ (p : Pause). p.since + pauses probe_most p.length count) same, ap (λ n. pauses probe_most old.probe.length n) none)

    by_command : (its : Command) → Serves (looked old now) room now its between → old.probe.since + pauses probe_most old.probe.length (cond (is_probe its) 1 0 + count) ≤ since
    by_command (Publish from some) serves = kept (ap (λ (s : SendingState). s.probe) serves.5 ∙ looked_probe old now)
    by_command (Wake at) serves = kept (ap (λ (s : SendingState). s.probe) serves.4 ∙ looked_probe old now)
    by_command Idle serves = kept (ap (λ (s : SendingState). s.probe) serves.1 ∙ looked_probe old now)
    by_command (Probe number opening) serves =
        let its : between.probe ≡ longer probe_most old.probe now = ap (λ (s : SendingState). s.probe) serves.4 ∙ ap (λ p. longer probe_most p now) (looked_probe old now) in
        let test = (and_parts (nat_lt (looked old now).done (looked old now).progress.carried) (is_over (looked old now).probe now) serves.2).1 in
        let over = leb-true (old.probe.since + old.probe.length) now (ap (λ p. is_over p now) (sym (looked_probe old now)) ∙ test) in
        let more : 1 + count ≡ suc count = omega arith in
        omega (
          arith,
          rest (omega (arith, ap (λ (p : Pause). p.length) its)),
          over,
          undoubled probe_most old.probe.length fits,
          ap (λ (p : Pause). p.since + pauses probe_most p.length count) its,
          pauses_from probe_most old.probe.length count,
          ap (λ n. pauses probe_most old.probe.length n) more,
        )

pub probes_are_rare : ProbesAreRare
probes_are_rare old [] new leads fits = omega (arith, ap (λ (s : SendingState). s.probe.since) leads)
probes_are_rare old (it ∷ services) new leads fits =
    let between = (leads.2).0 in
    let step = probes_step old it.room it.now it.command between (probes services) new.probe.since fits (leads.2).1 (λ within. probes_are_rare between services new (leads.2).2 within) in
    omega (arith, step, ap (λ n. pauses probe_most old.probe.length n) (sum_by-cons (λ (one : Service). cond (is_probe one.command) 1 0) it services))
