-- What is kept of a shard's sessions.
use Rattle.std.proofs.Common.{◌≡◌, ◌≢◌, ◌⊎◌, ℕ, zero, suc, ◌+◌, ◌-◌, ◌^◌, ◌<◌, ◌≤◌, ◌==◌, ◌||◌, not, if◌then◌else◌, Bool, true, false, List, [], ◌∷◌, ◌++◌, length, length-append, get_or, set, Option, Some, None, is_some, refl, sym, ap, subst, ◌∙◌, inl, inr, arith, get_or-set_other, get_or-set_same, length-set}
use Rattle.std.specs.List.{sum_by}
use Rattle.std.proofs.lemmas.Bool.{true≢false, false≢true, cases_eq, cases_lt, lt-ltb, le-leb}
use Rattle.std.proofs.Math.ListN.{get_or-append}
use Rattle.std.proofs.lemmas.List.{get_or_default, get_or_push}
use Rattle.std.proofs.lemmas.List.Sums.{sum_by-set, sum_by-cons, sum_by_push, get_or-le-sum_by}
use Rattle.krb_engine.specs.declared.pause.Pause.{Pause}
use Rattle.krb_engine.specs.declared.sending.Command.TheVariants.{Publish, Probe, Wake, Idle}
use Rattle.krb_engine.specs.Limits.{service_most, under_way_most}
use Rattle.krb_engine.specs.Queue.{has}
use Rattle.krb_engine.specs.SendingState.{SendingState}
use Rattle.krb_engine.specs.Sending.{ask_end, batch, end_of, held_end, is_settled, looked, may_ask, wake_time}
use Rattle.krb_engine.specs.Calls as calls
use Rattle.krb_sender.specs.declared.session.Turn.{Turn}
use Rattle.krb_sender.specs.declared.session.Turn.TheVariants.{Does, Held}
use Rattle.krb_sender.specs.SessionState.{SessionState}
use Rattle.krb_sender.specs.Session.{Serves, is_idle, is_over, weight}
use Rattle.krb_sender.specs.Times.{time_of, never}
use Rattle.krb_sender.proofs.TimesLemmas.{time_of-add}
use Rattle.krb_sender.specs.Lane.{AllKept, IsKept, IsLane, LaneState, Rests, RoomComes, look_time, memory_pause, more_of, pause_most}

-- ---- one session, after a service

idle_kept : (new : SessionState) (queued : Bool) (time clock : ℕ) → is_idle new ≡ true → weight new ≡ 0 → IsKept new queued time clock
idle_kept new queued time clock idle none = record {
  gives_up = λ some. absurd (omega (arith, some, none));
  is_looked_at = λ q busy. absurd (true≢false (sym idle ∙ busy));
  has_nothing = λ q busy. absurd (true≢false (sym idle ∙ busy));
}

-- it is looked at within the shortest pause
soon_kept : (new : SessionState) (queued : Bool) (time clock : ℕ) → time ≤ clock + memory_pause → IsKept new queued time clock
soon_kept new queued time clock soon = record {
  gives_up = λ some. omega (arith, soon);
  is_looked_at = λ q busy. omega (arith, soon);
  has_nothing = λ q busy. inr soon;
}

-- it waits for its turn, or is looked at within the shortest pause; and within the longest in any case
more_kept : (new : SessionState) (queued : Bool) (time clock : ℕ) → time ≤ clock + pause_most
    → (queued ≡ true) ⊎ (time ≤ clock + memory_pause) → IsKept new queued time clock
more_kept new queued time clock le more = record {
  gives_up = λ some. le;
  is_looked_at = λ q busy. le;
  has_nothing = λ q busy. elim more [ inl waits ↦ absurd (false≢true (sym q ∙ waits)) | inr now ↦ inr now ];
}

rests_kept : (new : SessionState) (queued : Bool) (time clock : ℕ) → time ≤ clock + pause_most → Rests new time → IsKept new queued time clock
rests_kept new queued time clock le rests = record {
  gives_up = λ some. le;
  is_looked_at = λ q busy. le;
  has_nothing = λ q busy. inl rests;
}

over_idle : (it : SessionState) → is_over it ≡ true → is_idle it ≡ true
over_idle it over = by_cases it.is_stopped (is_some it.end.ended) (it.end.done == it.end.progress.next) over
  where
    by_cases : (a b c : Bool) → (a || b) ≡ true → ((b || c) || a) ≡ true
    by_cases true true true is = refl
    by_cases true true false is = refl
    by_cases true false true is = refl
    by_cases true false false is = refl
    by_cases false true true is = refl
    by_cases false true false is = refl
    by_cases false false c is = absurd (false≢true is)

batch_any : (it : SendingState) (room : ℕ) → batch it (suc room) ≡ 0 → batch it service_most ≡ 0
batch_any it room none = omega (arith, none)

-- a refusal holds it back: until its pause is over
held_until : (held : Bool) (ask : Option Pause) (clock : ℕ) → (not held || may_ask ask clock) ≡ false
    → (pause : Pause) × (held ≡ true) × (ask ≡ Some pause) × (clock < pause.since + pause.length)
held_until false ask clock is = absurd (true≢false is)
held_until true None clock is = absurd (true≢false is)
held_until true (Some pause) clock is = elim (cases_lt clock (pause.since + pause.length)) [
  | inl lt ↦ (pause, refl, refl, lt)
  | inr over ↦ absurd (true≢false (sym (le-leb (pause.since + pause.length) clock over) ∙ is))
]

ask_le : (e : SendingState) (room clock : ℕ) (pause : Pause) → e.ask ≡ Some pause → 0 < batch e room
    → wake_time e (batch e room) room clock ≤ end_of pause
ask_le e room clock pause is some =
    let held : held_end e (batch e room) ≡ end_of pause =
    ap (λ b. if b then ask_end e.ask else never) (lt-ltb 0 (batch e room) some) ∙ ap (λ a. ask_end a) is in
    omega (arith, held)

wake_kept : (old new : SessionState) (room clock at time : ℕ) (queued : Bool)
    → calls.Serves (looked old.end clock) room clock (Wake at) new.end
    → time ≤ look_time (Does (Wake at)) clock
    → ((room == 0) ≡ true → (queued ≡ true) ⊎ (time ≤ clock + memory_pause))
    → IsKept new queued time clock
wake_kept old new zero clock at time queued serves le more = more_kept new queued time clock (omega (arith, le)) (more refl)
wake_kept old new (suc room) clock at time queued serves le more =
    rests_kept new queued time clock (omega (arith, le)) (elim serves.1 [
      | inl none ↦ inl (subst (λ e. batch e service_most ≡ 0) (sym serves.4) (batch_any (looked old.end clock) room none))
      | inr kept ↦ by_count (held_until (looked old.end clock).is_held (looked old.end clock).ask clock kept)
    ])
  where
    by_count : ((pause : Pause) × ((looked old.end clock).is_held ≡ true) × ((looked old.end clock).ask ≡ Some pause) × (clock < pause.since + pause.length)) → Rests new time
    by_count held = elim (cases_eq (batch (looked old.end clock) (suc room)) 0) [
      | inl none ↦ inl (subst (λ e. batch e service_most ≡ 0) (sym serves.4) (batch_any (looked old.end clock) room none))
      | inr some ↦
          let until : at ≤ end_of held.0 = omega (arith, serves.3, ask_le (looked old.end clock) (suc room) clock held.0 held.2 (omega (arith, some))) in
          inr (
            held.0,
            subst (λ e. e.is_held ≡ true) (sym serves.4) held.1,
            subst (λ e. e.ask ≡ Some held.0) (sym serves.4) held.2,
            omega (arith, le, until, held.3),
          )
    ]

pub served_kept : (old new : SessionState) (room clock time : ℕ) (turn : Turn) (queued : Bool)
    → Serves old room clock turn new → (is_idle new ≡ true → weight new ≡ 0)
    → time ≤ look_time turn clock
    → (more_of turn room ≡ true → (queued ≡ true) ⊎ (time ≤ clock + memory_pause))
    → IsKept new queued time clock
served_kept old new room clock time Held queued serves zero_at le more = soon_kept new queued time clock (omega (arith, le))
served_kept old new room clock time (Does (Publish from count)) queued serves zero_at le more = more_kept new queued time clock (omega (arith, le)) (more refl)
served_kept old new room clock time (Does (Probe number opening)) queued serves zero_at le more = more_kept new queued time clock (omega (arith, le)) (more refl)
served_kept old new room clock time (Does Idle) queued (inl over) zero_at le more =
    let idle : is_idle new ≡ true = subst (λ s. is_idle s ≡ true) (sym over.2) (over_idle old over.0) in
    idle_kept new queued time clock idle (zero_at idle)
served_kept old new room clock time (Does Idle) queued (inr serves) zero_at le more =
    let settled : is_settled new.end ≡ true = ap (λ e. is_settled e) serves.2.1 ∙ serves.2.0 in
    let idle : is_idle new ≡ true = ap (λ b. b || new.is_stopped) settled in
    idle_kept new queued time clock idle (zero_at idle)
served_kept old new room clock time (Does (Wake at)) queued (inl over) zero_at le more =
    let no : ⊥ = cc (over.1) in absurd no
served_kept old new room clock time (Does (Wake at)) queued (inr serves) zero_at le more = wake_kept old new room clock at time queued serves.2 le more

-- ---- one session, after an event that puts nothing under way

pub event_kept : (old new : SessionState) (was queued : Bool) (before time clock : ℕ) → IsKept old was before clock
    → weight new ≤ weight old → time ≤ before → (is_idle new ≡ true → weight new ≡ 0)
    → (is_idle new ≡ false → (queued ≡ true) ⊎ (time ≤ clock + memory_pause))
    → IsKept new queued time clock
event_kept old new was queued before time clock kept less le zero_at more = record {
  gives_up = λ some. omega (arith, le, kept.gives_up (omega (arith, some, less)));
  is_looked_at = λ q busy. elim (more busy) [ inl waits ↦ absurd (false≢true (sym q ∙ waits)) | inr now ↦ omega (arith, now) ];
  has_nothing = λ q busy. elim (more busy) [ inl waits ↦ absurd (false≢true (sym q ∙ waits)) | inr now ↦ inr now ];
}

-- ---- later

pub kept_later : (it : SessionState) (queued : Bool) (time clock later : ℕ) → clock ≤ later → IsKept it queued time clock → IsKept it queued time later
kept_later it queued time clock later le kept = record {
  gives_up = λ some. omega (arith, le, kept.gives_up some);
  is_looked_at = λ q busy. omega (arith, le, kept.is_looked_at q busy);
  has_nothing = λ q busy. elim (kept.has_nothing q busy) [ inl none ↦ inl none | inr now ↦ inr (omega (arith, le, now)) ];
}

pub lane_later : (sessions : List SessionState) (queue times : List ℕ) (under_way clock later : ℕ) → clock ≤ later → IsLane sessions queue times under_way clock → IsLane sessions queue times under_way later
lane_later sessions queue times under_way clock later le lane = record {
  count = lane.count;
  sized = lane.sized;
  kept = λ k d lt. kept_later (get_or sessions k d) (has queue k) (time_of times k) clock later le (lane.kept k d lt);
  places = lane.places;
  sum = lane.sum;
  few = lane.few;
}

-- ---- all sessions, where one has changed

module _ (sessions : List SessionState) (queue times queue2 times2 : List ℕ) (clock later place : ℕ) (new : SessionState) where
  kept_set : AllKept sessions queue times clock → clock ≤ later → place < length sessions
      → ((k : ℕ) → k ≢ place → has queue2 k ≡ has queue k)
      → ((k : ℕ) → k ≢ place → time_of times2 k ≡ time_of times k)
      → IsKept new (has queue2 place) (time_of times2 place) later
      → AllKept (set sessions place new) queue2 times2 later
  kept_set all le there others stay kept k d lt = elim (cases_eq k place) [
    | inl same ↦ subst (λ p. IsKept (get_or (set sessions place new) p d) (has queue2 p) (time_of times2 p) later) (sym same)
        (subst (λ s. IsKept s (has queue2 place) (time_of times2 place) later) (sym (get_or-set_same sessions place new d there)) kept)
    | inr apart ↦
        let within : k < length sessions = omega (arith, lt, length-set sessions place new) in
        let was : IsKept (get_or sessions k d) (has queue k) (time_of times k) later = kept_later (get_or sessions k d) (has queue k) (time_of times k) clock later le (all k d within) in
        let one : IsKept (get_or (set sessions place new) k d) (has queue k) (time_of times k) later = subst (λ s. IsKept s (has queue k) (time_of times k) later) (sym (get_or-set_other sessions place k new d apart)) was in
        let two : IsKept (get_or (set sessions place new) k d) (has queue2 k) (time_of times k) later = subst (λ b. IsKept (get_or (set sessions place new) k d) b (time_of times k) later) (sym (others k apart)) one in
        subst (λ t. IsKept (get_or (set sessions place new) k d) (has queue2 k) t later) (sym (stay k apart)) two
  ]

pub lane_with : (sessions : List SessionState) (queue times queue2 times2 : List ℕ) (under_way clock later place : ℕ) (old new : SessionState)
    → IsLane sessions queue times under_way clock → clock ≤ later → place < length sessions
    → old ≡ get_or sessions place old
    → length times2 ≡ length times
    → ((k : ℕ) → k ≢ place → has queue2 k ≡ has queue k)
    → ((k : ℕ) → k ≢ place → time_of times2 k ≡ time_of times k)
    → under_way - weight old + weight new ≤ under_way_most
    → IsKept new (has queue2 place) (time_of times2 place) later
    → IsLane (set sessions place new) queue2 times2 (under_way - weight old + weight new) later
lane_with sessions queue times queue2 times2 under_way clock later place old new lane le there is sized others stay few kept = record {
  count = omega (arith, lane.count, length-set sessions place new);
  sized = omega (arith, sized, lane.sized, length-set sessions place new);
  kept = kept_set sessions queue times queue2 times2 clock later place new lane.kept le there others stay kept;
  places = λ k waits. elim (cases_eq k place) [
    | inl same ↦ omega (arith, same, there, length-set sessions place new)
    | inr apart ↦ omega (arith, lane.places k (sym (others k apart) ∙ waits), length-set sessions place new)
  ];
  sum =
      let moved : sum_by weight (set sessions place new) + weight (get_or sessions place old) ≡ sum_by weight sessions + weight new = sum_by-set weight sessions place new old there in
      let part : weight (get_or sessions place old) ≤ sum_by weight sessions = get_or-le-sum_by weight sessions place old there in
      let same : weight (get_or sessions place old) ≡ weight old = ap weight (sym is) in
      omega (arith, moved, part, same, lane.sum);
  few = few;
}

pub turn_lane : (sessions : List SessionState) (queue times queue1 queue2 times2 : List ℕ) (under_way clock later place room before after : ℕ) (turn : Turn) (old heard new : SessionState)
    → IsLane sessions queue times under_way clock → clock ≤ later
    → (place < length times) ⊎ (has queue place ≡ true)
    → old ≡ get_or sessions place old
    → room ≡ under_way_most - under_way
    → ((k : ℕ) → k ≢ place → has queue1 k ≡ has queue k)
    → before ≡ weight old → after ≡ weight new
    → weight heard ≤ weight old → Serves heard room later turn new → weight new ≤ weight heard + room → (is_idle new ≡ true → weight new ≡ 0)
    → length times2 ≡ length times
    → ((k : ℕ) → k ≢ place → has queue2 k ≡ has queue1 k)
    → ((k : ℕ) → k ≢ place → time_of times2 k ≡ time_of times k)
    → time_of times2 place ≤ look_time turn later
    → (more_of turn room ≡ true → (has queue2 place ≡ true) ⊎ (time_of times2 place ≤ later + memory_pause))
    → IsLane (set sessions place new) queue2 times2 (under_way - before + after) later
turn_lane sessions queue times queue1 queue2 times2 under_way clock later place room before after turn old heard new lane le where_is is room_is others1 is_before is_after listed serves small zero_at sized others2 stay time more =
    let there : place < length sessions = elim where_is [ inl lt ↦ omega (arith, lt, lane.sized) | inr waits ↦ lane.places place waits ] in
    let part : weight (get_or sessions place old) ≤ sum_by weight sessions = get_or-le-sum_by weight sessions place old there in
    let same : weight (get_or sessions place old) ≡ weight old = ap weight (sym is) in
    let few : under_way - weight old + weight new ≤ under_way_most = omega (arith, part, same, lane.sum, lane.few, small, listed, room_is) in
    let kept = served_kept heard new room later (time_of times2 place) turn (has queue2 place) serves zero_at time more in
    let is_lane = lane_with sessions queue times queue2 times2 under_way clock later place old new lane le there is sized (λ k apart. others2 k apart ∙ others1 k apart) stay few kept in
    subst (λ n. IsLane (set sessions place new) queue2 times2 (under_way - n + after) later) (sym is_before)
    (subst (λ n. IsLane (set sessions place new) queue2 times2 (under_way - weight old + n) later) (sym is_after) is_lane)

pub turn_there : (lane : LaneState) (place : ℕ) → IsLane lane.sessions lane.queue lane.times lane.under_way lane.clock
    → (place < length lane.times) ⊎ (has lane.queue place ≡ true) → place < length lane.sessions
turn_there lane place is where_is = elim where_is [ inl lt ↦ omega (arith, lt, is.sized) | inr waits ↦ is.places place waits ]

pub event_lane : (sessions : List SessionState) (queue times queue2 times2 : List ℕ) (under_way clock place before after : ℕ) (old new : SessionState)
    → IsLane sessions queue times under_way clock
    → place < length sessions
    → old ≡ get_or sessions place old
    → before ≡ weight old → after ≡ weight new → weight new ≤ weight old
    → length times2 ≡ length times
    → ((k : ℕ) → k ≢ place → has queue2 k ≡ has queue k)
    → ((k : ℕ) → k ≢ place → time_of times2 k ≡ time_of times k)
    → time_of times2 place ≤ time_of times place
    → (is_idle new ≡ false → (has queue2 place ≡ true) ⊎ (time_of times2 place ≤ clock + memory_pause))
    → (is_idle new ≡ true → weight new ≡ 0)
    → IsLane (set sessions place new) queue2 times2 (under_way - before + after) clock
event_lane sessions queue times queue2 times2 under_way clock place before after old new lane there is is_before is_after less sized others stay time more zero_at =
    let part : weight (get_or sessions place old) ≤ sum_by weight sessions = get_or-le-sum_by weight sessions place old there in
    let same : weight (get_or sessions place old) ≡ weight old = ap weight (sym is) in
    let few : under_way - weight old + weight new ≤ under_way_most = omega (arith, part, same, lane.sum, lane.few, less) in
    let was : IsKept old (has queue place) (time_of times place) clock = subst (λ s. IsKept s (has queue place) (time_of times place) clock) (sym is) (lane.kept place old there) in
    let kept = event_kept old new (has queue place) (has queue2 place) (time_of times place) (time_of times2 place) clock was less time zero_at more in
    let le : clock ≤ clock = omega arith in
    let is_lane = lane_with sessions queue times queue2 times2 under_way clock clock place old new lane le there is sized others stay few kept in
    subst (λ n. IsLane (set sessions place new) queue2 times2 (under_way - n + after) clock) (sym is_before)
    (subst (λ n. IsLane (set sessions place new) queue2 times2 (under_way - weight old + n) clock) (sym is_after) is_lane)

-- ---- one session that is as it was, and has its turn

pub wake_lane : (sessions : List SessionState) (queue times queue2 times2 : List ℕ) (under_way clock place : ℕ) (it : SessionState)
    → IsLane sessions queue times under_way clock
    → place < length sessions
    → it ≡ get_or sessions place it
    → length times2 ≡ length times
    → ((k : ℕ) → k ≢ place → has queue2 k ≡ has queue k)
    → ((k : ℕ) → k ≢ place → time_of times2 k ≡ time_of times k)
    → time_of times2 place ≤ time_of times place
    → (is_idle it ≡ false → (has queue2 place ≡ true) ⊎ (time_of times2 place ≤ clock + memory_pause))
    → (is_idle it ≡ true → weight it ≡ 0)
    → IsLane sessions queue2 times2 under_way clock
wake_lane sessions queue times queue2 times2 under_way clock place it lane there is sized others stay time more zero_at = record {
  count = lane.count;
  sized = omega (arith, sized, lane.sized);
  kept = λ k d lt. elim (cases_eq k place) [
    | inl same ↦
        let was : IsKept it (has queue place) (time_of times place) clock = subst (λ s. IsKept s (has queue place) (time_of times place) clock) (sym is) (lane.kept place it there) in
        let le : weight it ≤ weight it = omega arith in
        let kept = event_kept it it (has queue place) (has queue2 place) (time_of times place) (time_of times2 place) clock was le time zero_at more in
        let one : it ≡ get_or sessions place d = is ∙ get_or_default sessions place it d there in
        subst (λ p. IsKept (get_or sessions p d) (has queue2 p) (time_of times2 p) clock) (sym same)
        (subst (λ s. IsKept s (has queue2 place) (time_of times2 place) clock) one kept)
    | inr apart ↦
        let two : IsKept (get_or sessions k d) (has queue2 k) (time_of times k) clock = subst (λ b. IsKept (get_or sessions k d) b (time_of times k) clock) (sym (others k apart)) (lane.kept k d lt) in
        subst (λ t. IsKept (get_or sessions k d) (has queue2 k) t clock) (sym (stay k apart)) two
  ];
  places = λ k waits. elim (cases_eq k place) [
    | inl same ↦ omega (arith, same, there)
    | inr apart ↦ lane.places k (sym (others k apart) ∙ waits)
  ];
  sum = lane.sum;
  few = lane.few;
}

-- ---- where something is under way

-- a sum that isn't 0 has an item that isn't
heavy : (sessions : List SessionState) → 0 < sum_by weight sessions
    → (place : ℕ) × ((it : SessionState) × (place < length sessions) × (it ≡ get_or sessions place it) × (0 < weight it))
heavy [] some = absurd (omega (arith, some))
heavy (it ∷ sessions) some = elim (cases_lt 0 (weight it)) [
  | inl lt ↦ (0, (it, (let e : 0 < suc (length sessions) = omega arith in e), refl, lt))
  | inr ge ↦
      let rest : 0 < sum_by weight sessions = omega (arith, some, ge, sum_by-cons weight it sessions) in
      let found = heavy sessions rest in
      (suc found.0, (found.1.0, (let e : suc found.0 < suc (length sessions) = omega (arith, found.1.1) in e), found.1.2, found.1.3))
]

pub room_comes : (lane : LaneState) → IsLane lane.sessions lane.queue lane.times lane.under_way lane.clock → RoomComes lane
room_comes lane is some =
    let found = heavy lane.sessions (omega (arith, some, is.sum)) in
    let weighs : 0 < weight (get_or lane.sessions found.0 found.1.0) = subst (λ s. 0 < weight s) found.1.2 found.1.3 in
    (found.0, (found.1.0, found.1.1, found.1.2, found.1.3, (is.kept found.0 found.1.0 found.1.1).gives_up weighs))

-- ---- one session more

new_kept : (new : SessionState) (queued : Bool) (time clock : ℕ) → weight new ≡ 0
    → (is_idle new ≡ false → (queued ≡ true) ⊎ (time ≤ clock + memory_pause)) → IsKept new queued time clock
new_kept new queued time clock none more = record {
  gives_up = λ some. absurd (omega (arith, some, none));
  is_looked_at = λ q busy. elim (more busy) [ inl waits ↦ absurd (false≢true (sym q ∙ waits)) | inr now ↦ omega (arith, now) ];
  has_nothing = λ q busy. elim (more busy) [ inl waits ↦ absurd (false≢true (sym q ∙ waits)) | inr now ↦ inr now ];
}

pub add_lane : (sessions : List SessionState) (queue times queue2 times2 : List ℕ) (under_way clock place : ℕ) (idle : Bool) (new : SessionState)
    → IsLane sessions queue times under_way clock → place ≡ length sessions → length sessions < 2 ^ 32 - 1
    → weight new ≡ 0 → idle ≡ is_idle new
    → length times2 ≡ length (times ++ never ∷ [])
    → ((k : ℕ) → k ≢ place → has queue2 k ≡ has queue k)
    → ((k : ℕ) → k ≢ place → time_of times2 k ≡ time_of (times ++ never ∷ []) k)
    → (idle ≡ false → (has queue2 place ≡ true) ⊎ (time_of times2 place ≤ clock + memory_pause))
    → IsLane (sessions ++ new ∷ []) queue2 times2 under_way clock
add_lane sessions queue times queue2 times2 under_way clock place idle new lane at_end few none is_it sized others stay more =
    let longer : length (sessions ++ new ∷ []) ≡ length sessions + 1 = omega (arith, length-append sessions (new ∷ [])) in
    let times_longer : length (times ++ never ∷ []) ≡ length times + 1 = omega (arith, length-append times (never ∷ [])) in
    record {
      count = omega (arith, few, at_end, longer);
      sized = omega (arith, sized, longer, times_longer, lane.sized);
      kept = λ k d lt. elim (cases_eq k place) [
        | inl same ↦
            let last : get_or (sessions ++ new ∷ []) place d ≡ new = get_or_push sessions new d place (sym at_end) in
            subst (λ p. IsKept (get_or (sessions ++ new ∷ []) p d) (has queue2 p) (time_of times2 p) clock) (sym same)
            (subst (λ s. IsKept s (has queue2 place) (time_of times2 place) clock) (sym last)
            (new_kept new (has queue2 place) (time_of times2 place) clock none (λ busy. more (is_it ∙ busy))))
        | inr apart ↦
            let within : k < length sessions = below k place (length sessions) (length (sessions ++ new ∷ [])) lt longer at_end apart in
            let was : IsKept (get_or sessions k d) (has queue k) (time_of times k) clock = lane.kept k d within in
            let one : IsKept (get_or (sessions ++ new ∷ []) k d) (has queue k) (time_of times k) clock = subst (λ s. IsKept s (has queue k) (time_of times k) clock) (sym (get_or-append sessions (new ∷ []) d k within)) was in
            let two : IsKept (get_or (sessions ++ new ∷ []) k d) (has queue2 k) (time_of times k) clock = subst (λ b. IsKept (get_or (sessions ++ new ∷ []) k d) b (time_of times k) clock) (sym (others k apart)) one in
            subst (λ t. IsKept (get_or (sessions ++ new ∷ []) k d) (has queue2 k) t clock) (sym (stay k apart ∙ time_of-add times k)) two
      ];
      places = λ k waits. elim (cases_eq k place) [
        | inl same ↦ omega (arith, same, at_end, longer)
        | inr apart ↦ omega (arith, lane.places k (sym (others k apart) ∙ waits), longer)
      ];
      sum = omega (arith, sum_by_push weight sessions new, none, lane.sum);
      few = lane.few;
    }
  where
    below : (k place n m : ℕ) → k < m → m ≡ n + 1 → place ≡ n → k ≢ place → k < n
    below k place n m lt longer at_end apart = elim (cases_lt k n) [
      | inl less ↦ less
      | inr more ↦ absurd (apart (omega (arith, lt, longer, at_end, more)))
    ]
