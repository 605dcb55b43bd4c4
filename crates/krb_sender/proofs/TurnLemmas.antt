-- How many turns there still are at one time.
use Rattle.std.proofs.Common.{◌≡◌, ◌⊎◌, ℕ, suc, ◌+◌, ◌*◌, ◌-◌, ◌<◌, ◌≤◌, ◌==◌, ◌||◌, ◌&&◌, if◌then◌else◌, Bool, true, false, nat_lt, nat_le, List, length, get_or, set, is_some, refl, sym, ap, subst, ◌∙◌, inl, inr, arith}
use Rattle.std.specs.List.{sum_by}
use Rattle.std.proofs.lemmas.Bool.{true≢false, false≢true, cases_eq, cases_Bool, le-ltb, lt-leb, le-leb, eq-eqb, eqb-true, ne_eqb, ltb-false, and_cases, and_left, and_right}
use Rattle.std.proofs.lemmas.List.Sums.{sum_by-set, sum_by-le-sum_by, get_or-le-sum_by, count_by-le-length}
use Rattle.krb_carry.specs.declared.receipt.Receipt.{Receipt}
use Rattle.krb_carry.specs.declared.receipt.Finding.{Finding}
use Rattle.krb_carry.specs.declared.receipt.Finding.TheVariants as findings
use Rattle.krb_engine.specs.declared.pause.Pause.{Pause}
use Rattle.krb_engine.specs.declared.sending.Asks.{Asks}
use Rattle.krb_engine.specs.declared.sending.Command.{Command}
use Rattle.krb_engine.specs.declared.sending.Command.TheVariants.{Publish, Probe, Wake, Idle}
use Rattle.krb_engine.specs.declared.sending.Heard.{Heard}
use Rattle.krb_engine.specs.Limits.{under_way_most}
use Rattle.krb_engine.specs.SendingState.{SendingState}
use Rattle.krb_engine.specs.Sending.{asked, found, heeded, is_asked, is_lost, is_over as pause_over, is_unanswered, listed, looked, lost, noted, probed, published, with_list}
use Rattle.krb_engine.proofs.NotedLemmas.{of_noted}
use Rattle.krb_engine.specs.Calls as calls
use Rattle.krb_sender.specs.declared.session.Turn.{Turn}
use Rattle.krb_sender.specs.declared.session.Turn.TheVariants.{Does, Held}
use Rattle.krb_sender.specs.SessionState.{SessionState}
use Rattle.krb_sender.specs.Session.{IsPaced, Serves, flight, heard_list, is_over, keeps_under_way, may_probe, weight, with_end}
use Rattle.krb_sender.specs.Times.{time_of, never}
use Rattle.krb_sender.specs.Lane.{IsLane, IsPicked, look_time, more_of, turns_of}

-- ---- pauses that take some time

heeded_paced : (e : SendingState) (number : ℕ) (it : Asks) (now : ℕ) → IsPaced e → IsPaced (heeded e number it now)
heeded_paced e number it now paced = by_test (is_asked e number it now)
  where
    by_test : (b : Bool) → IsPaced (if b then asked e it now else noted e number it)
    by_test true = paced
    by_test false = of_noted IsPaced e number it paced paced

found_paced : (e : SendingState) (number now : ℕ) (finding : Finding) → IsPaced e → IsPaced (found e number now finding)
found_paced e number now findings.Repeat paced = paced
found_paced e number now findings.Delivered paced = (paced.0, omega arith)
found_paced e number now findings.Older paced = paced
found_paced e number now findings.Forked paced = paced

pub hears_paced : (old : SendingState) (own : List ℕ) (receipt : Receipt) (it : Asks) (now : ℕ) (heard : Heard) (new : SendingState)
    → calls.Hears old own receipt it now heard new → IsPaced old → IsPaced new
hears_paced old own receipt it now heard new (inl over) paced = subst IsPaced (sym over.2) paced
hears_paced old own receipt it now heard new (inr hears) paced =
    subst IsPaced (sym hears.1.3)
    (heeded_paced (found old receipt.number now hears.1.0) receipt.number it now (found_paced old receipt.number now hears.1.0 paced))

looked_paced : (e : SendingState) (now : ℕ) → IsPaced e → IsPaced (looked e now)
looked_paced e now paced = by_test (is_lost e now)
  where
    by_test : (b : Bool) → IsPaced (if b then lost e now else e)
    by_test true = (omega (arith, paced.0), paced.1)
    by_test false = paced

published_paced : (e : SendingState) (count now : ℕ) → IsPaced e → IsPaced (published e count now)
published_paced e count now paced = (by_test (e.progress.sent == e.progress.carried), paced.1)
  where
    by_test : (b : Bool) → 0 < (if b then record e.again { since = now } else e.again).length
    by_test true = paced.0
    by_test false = paced.0

pub serves_paced : (old : SendingState) (room now : ℕ) (command : Command) (new : SendingState)
    → calls.Serves (looked old now) room now command new → IsPaced old → IsPaced new
serves_paced old room now (Publish from count) new serves paced =
    subst IsPaced (sym serves.5) (published_paced (looked old now) count now (looked_paced old now paced))
serves_paced old room now (Probe number opening) new serves paced =
    let was = looked_paced old now paced in
    subst IsPaced (sym serves.4) (was.0, omega (arith, was.1))
serves_paced old room now (Wake at) new serves paced = subst IsPaced (sym serves.4) (looked_paced old now paced)
serves_paced old room now Idle new serves paced = subst IsPaced (sym serves.1) (looked_paced old now paced)

-- ---- what is looked at twice at one time

not_lost : (e : SendingState) (now : ℕ) → is_lost e now ≡ false → looked e now ≡ e
not_lost e now is = ap (λ b. if b then lost e now else e) is

-- nothing is overdue after it was looked at
none_lost : (e : SendingState) (now : ℕ) → is_lost (looked e now) now ≡ false
none_lost e now = by_test (is_lost e now) refl
  where
    by_test : (b : Bool) → is_lost e now ≡ b → is_lost (if b then lost e now else e) now ≡ false
    by_test true is = ap (λ t. t && pause_over (lost e now).again now) (le-ltb e.progress.carried e.progress.carried (omega arith))
    by_test false is = is

abbrev pause_at : SendingState → ℕ → Bool → Pause
pause_at e now b = if b then record e.again { since = now } else e.again

-- nor after frames left, if the pause takes some time
published_lost : (e : SendingState) (count now : ℕ) → is_lost e now ≡ false → e.progress.carried ≤ e.progress.sent → 0 < e.again.length
    → is_lost (published e count now) now ≡ false
published_lost e count now none le long =
    and_right (nat_lt e.progress.carried (e.progress.sent + count)) (pause_over (pause_at e now (e.progress.sent == e.progress.carried)) now)
    (by_test (cases_eq e.progress.sent e.progress.carried))
  where
    by_test : (e.progress.sent ≡ e.progress.carried) ⊎ (e.progress.sent ≡ e.progress.carried → ⊥)
        → pause_over (pause_at e now (e.progress.sent == e.progress.carried)) now ≡ false
    by_test (inl same) = ap (λ b. pause_over (pause_at e now b) now) (eq-eqb e.progress.sent e.progress.carried same) ∙ lt-leb (now + e.again.length) now (omega (arith, long))
    by_test (inr apart) = ap (λ b. pause_over (pause_at e now b) now) (ne_eqb e.progress.sent e.progress.carried apart) ∙ elim (and_cases (nat_lt e.progress.carried e.progress.sent) (pause_over e.again now) none) [
      | inl past ↦ absurd (apart (omega (arith, le, ltb-false e.progress.carried e.progress.sent past)))
      | inr over ↦ over
    ]

-- ---- an end that was served

abbrev leaves : Turn → Bool
leaves Held = false
leaves (Does (Publish from count)) = true
leaves (Does (Probe number opening)) = true
leaves (Does (Wake at)) = false
leaves (Does Idle) = false

abbrev one : Bool → ℕ
one b = if b then 1 else 0

-- nothing more is overdue; and where something leaves, more is under way than before, or no probe may leave any more
record IsServed (old new : SendingState) (command : Command) (now : ℕ) : Type 0 where
  lost : is_lost new now ≡ false
  list : new.list ≡ old.list
  ended : new.ended ≡ old.ended
  fewer : one (is_unanswered new now) + flight (looked old now) + one (leaves (Does command)) ≤ one (is_unanswered old now) + flight new

record IsLooked (old new : SendingState) (now : ℕ) : Type 0 where
  list : new.list ≡ old.list
  ended : new.ended ≡ old.ended
  answered : is_unanswered new now ≡ is_unanswered old now
  order : new.progress.carried ≤ new.progress.sent

is_looked : (old : SendingState) (now : ℕ) → old.progress.carried ≤ old.progress.sent → IsLooked old (looked old now) now
is_looked old now le = by_test (is_lost old now)
  where
    by_test : (b : Bool) → IsLooked old (if b then lost old now else old) now
    by_test true = record { list = refl; ended = refl; answered = refl; order = omega arith }
    by_test false = record { list = refl; ended = refl; answered = refl; order = le }

same_served : (old : SendingState) (command : Command) (now : ℕ) → leaves (Does command) ≡ false → old.progress.carried ≤ old.progress.sent
    → IsServed old (looked old now) command now
same_served old command now none le =
    let is = is_looked old now le in
    record {
      lost = none_lost old now;
      list = is.list;
      ended = is.ended;
      fewer = omega (arith, ap one is.answered, ap one none);
    }

end_served : (old : SendingState) (room now : ℕ) (command : Command) (new : SendingState) → calls.Serves (looked old now) room now command new
    → old.progress.carried ≤ old.progress.sent → IsPaced new → IsServed old new command now
end_served old room now (Publish from count) new serves le paced =
    let is = is_looked old now le in
    let e = looked old now in
    let long : 0 < e.again.length = published_long (e.progress.sent == e.progress.carried) (subst IsPaced serves.5 paced).0 in
    subst (λ n. IsServed old n (Publish from count) now) (sym serves.5) (record {
      lost = published_lost e count now (none_lost old now) is.order long;
      list = is.list;
      ended = is.ended;
      fewer = omega (arith, ap one is.answered, serves.1, is.order);
    })
  where
    published_long : (b : Bool) → 0 < (if b then record (looked old now).again { since = now } else (looked old now).again).length → 0 < (looked old now).again.length
    published_long true long = long
    published_long false long = long
end_served old room now (Probe number opening) new serves le paced =
    let is = is_looked old now le in
    let e = looked old now in
    let long : 0 < (probed e now).probe.length = (subst IsPaced serves.4 paced).1 in
    let none : is_unanswered (probed e now) now ≡ false =
    and_right (nat_lt e.done e.progress.carried) (pause_over (probed e now).probe now) (lt-leb (now + (probed e now).probe.length) now (omega (arith, long))) in
    subst (λ n. IsServed old n (Probe number opening) now) (sym serves.4) (record {
      lost = none_lost old now;
      list = is.list;
      ended = is.ended;
      fewer = omega (arith, ap one none, ap one (sym is.answered ∙ serves.2));
    })
end_served old room now (Wake at) new serves le paced = subst (λ n. IsServed old n (Wake at) now) (sym serves.4) (same_served old (Wake at) now refl le)
end_served old room now Idle new serves le paced = subst (λ n. IsServed old n Idle now) (sym serves.1) (same_served old Idle now refl le)

-- ---- a session that was served

listed_at : (e : SendingState) (list : ℕ) → e.list ≡ list → listed e list ≡ e
listed_at e list is = ap (λ b. if b then e else with_list e list) (eq-eqb list e.list (sym is))

record IsHeard (old new : SendingState) (list now : ℕ) : Type 0 where
  here : new.list ≡ list
  ended : new.ended ≡ old.ended
  fewer : one (is_unanswered new now) ≤ one (is_unanswered old now)

abbrev heard_by : SendingState → ℕ → Bool → SendingState
heard_by old list b = if b then old else with_list old list

is_heard : (old : SendingState) (list now : ℕ) → IsHeard old (listed old list) list now
is_heard old list now = by_test (cases_Bool (list == old.list))
  where
    none : is_unanswered (with_list old list) now ≡ false
    none = and_left (nat_lt old.done old.done) (pause_over old.probe now) (le-ltb old.done old.done (omega arith))

    by_test : ((list == old.list) ≡ true) ⊎ ((list == old.list) ≡ false) → IsHeard old (listed old list) list now
    by_test (inl same) = subst (λ b. IsHeard old (heard_by old list b) list now) (sym same) (record { here = sym (eqb-true list old.list same); ended = refl; fewer = omega arith })
    by_test (inr apart) = subst (λ b. IsHeard old (heard_by old list b) list now) (sym apart) (record { here = refl; ended = refl; fewer = omega (arith, ap one none) })

-- what is left of it: whether a probe may leave, and what it keeps under way
abbrev Leaves : SessionState → ℕ → ℕ → Turn → SessionState → Type 0
Leaves old list now turn new =
    one (may_probe new now) + keeps_under_way old list now + one (leaves turn) ≤ one (may_probe old now) + keeps_under_way new list now

over_same : (it : SessionState) (end : SendingState) → end.ended ≡ it.end.ended → is_over (with_end it end) ≡ is_over it
over_same it end same = ap (λ e. it.is_stopped || is_some e) same

keeps_live : (it : SessionState) (list now : ℕ) → is_over it ≡ false → keeps_under_way it list now ≡ flight (looked (listed it.end list) now)
keeps_live it list now live = ap (λ b. if b then 0 else flight (looked (listed it.end list) now)) live

keeps_here : (it : SessionState) (list now : ℕ) → is_over it ≡ false → it.end.list ≡ list → is_lost it.end now ≡ false
    → keeps_under_way it list now ≡ flight it.end
keeps_here it list now live here none =
    keeps_live it list now live ∙ ap (λ e. flight (looked e now)) (listed_at it.end list here) ∙ ap flight (not_lost it.end now none)

session_over : (old : SessionState) (list room now : ℕ) (turn : Turn) (new : SessionState) → is_over old ≡ true → Serves old room now turn new → Leaves old list now turn new
session_over old list room now Held new over serves = absurd (true≢false (sym over ∙ serves.0))
session_over old list room now (Does command) new over (inl idle) =
    let none : leaves (Does command) ≡ false = ap (λ c. leaves (Does c)) idle.1 in
    subst (λ n. Leaves old list now (Does command) n) (sym idle.2) (omega (arith, ap one none))
session_over old list room now (Does command) new over (inr serves) = absurd (true≢false (sym over ∙ serves.0))

session_live : (old : SessionState) (list room now : ℕ) (turn : Turn) (new : SessionState) → is_over old ≡ false
    → Serves (with_end old (listed old.end list)) room now turn new
    → (listed old.end list).progress.carried ≤ (listed old.end list).progress.sent → IsPaced new.end → Leaves old list now turn new
session_live old list room now Held new live serves le paced =
    let heard = is_heard old.end list now in
    let s = with_end old (listed old.end list) in
    let keeps : keeps_under_way s list now ≡ keeps_under_way old list now =
    keeps_live s list now serves.0 ∙ ap (λ e. flight (looked e now)) (listed_at s.end list heard.here) ∙ sym (keeps_live old list now live) in
    subst (λ n. Leaves old list now Held n) (sym serves.2) (omega (arith, keeps, heard.fewer))
session_live old list room now (Does command) new live (inl idle) le paced =
    let heard = is_heard old.end list now in
    absurd (false≢true (sym live ∙ sym (over_same old (listed old.end list) heard.ended) ∙ idle.0))
session_live old list room now (Does command) new live (inr serves) le paced =
    let heard = is_heard old.end list now in
    let served = end_served (listed old.end list) room now command new.end serves.2 le paced in
    let before : keeps_under_way old list now ≡ flight (looked (listed old.end list) now) = keeps_live old list now live in
    let goes_on : is_over (with_end old new.end) ≡ false = over_same old new.end (served.ended ∙ heard.ended) ∙ live in
    let is_live : is_over new ≡ false = ap (λ n. is_over n) serves.3 ∙ goes_on in
    let now_keeps : keeps_under_way new list now ≡ flight new.end = keeps_here new list now is_live (served.list ∙ heard.here) served.lost in
    omega (arith, served.fewer, heard.fewer, before, now_keeps)

abbrev session_by : SessionState → ℕ → Bool → SessionState
session_by old list b = if b then old else with_end old (listed old.end list)

session_leaves : (old : SessionState) (list room now : ℕ) (turn : Turn) (new : SessionState) → Serves (heard_list old list) room now turn new
    → (heard_list old list).end.progress.carried ≤ (heard_list old list).end.progress.sent → IsPaced new.end → Leaves old list now turn new
session_leaves old list room now turn new serves le paced = by_over (is_over old) refl serves le
  where
    by_over : (b : Bool) → is_over old ≡ b → Serves (session_by old list b) room now turn new → (session_by old list b).end.progress.carried ≤ (session_by old list b).end.progress.sent → Leaves old list now turn new
    by_over true over serves le = session_over old list room now turn new over serves
    by_over false live serves le = session_live old list room now turn new live serves le paced

-- ---- a shard

-- looking at a session puts nothing more under way
keeps_less : (list now : ℕ) (it : SessionState) → keeps_under_way it list now ≤ weight it
keeps_less list now it = by_over (is_over it)
  where
    looked_less : (e : SendingState) → flight (looked e now) ≤ flight e
    looked_less e = by_test (is_lost e now)
      where
        by_test : (b : Bool) → flight (if b then lost e now else e) ≤ flight e
        by_test true = omega arith
        by_test false = omega arith

    listed_less : (b : Bool) → flight (if b then it.end else with_list it.end list) ≤ flight it.end
    listed_less true = omega arith
    listed_less false = omega arith

    by_over : (b : Bool) → (if b then 0 else flight (looked (listed it.end list) now)) ≤ (if b then 0 else flight it.end)
    by_over true = omega arith
    by_over false = omega (arith, looked_less (listed it.end list), listed_less (list == it.end.list))

more_leaves : (turn : Turn) (room : ℕ) → 0 < room → more_of turn room ≡ leaves turn
more_leaves Held room some = refl
more_leaves (Does (Publish from count)) room some = refl
more_leaves (Does (Probe number opening)) room some = refl
more_leaves (Does (Wake at)) room some = ne_eqb room 0 (λ none. omega (arith, some, none))
more_leaves (Does Idle) room some = refl

one_most : (b : Bool) → one b ≤ 1
one_most true = omega arith
one_most false = omega arith

pub turn_ends : (sessions : List SessionState) (queue times queue1 queue2 times2 : List ℕ) (under_way clock list later place room : ℕ) (turn : Turn) (has_more : Bool) (before heard new : SessionState)
    → IsLane sessions queue times under_way clock
    → place < length sessions
    → before ≡ get_or sessions place before
    → room ≡ under_way_most - under_way
    → heard ≡ heard_list before list
    → weight heard ≤ weight before
    → Serves heard room later turn new
    → weight new ≤ weight heard + room
    → heard.end.progress.carried ≤ heard.end.progress.sent
    → IsPaced new.end
    → IsPicked times queue room later place queue1
    → has_more ≡ more_of turn room
    → length queue2 ≤ length queue1 + one has_more
    → times2 ≡ set times place (time_of times2 place)
    → later < time_of times2 place
    → turns_of (set sessions place new) queue2 times2 list later < turns_of sessions queue times list later
turn_ends sessions queue times queue1 queue2 times2 under_way clock list later place room turn has_more before heard new lane there is room_is heard_is less serves small order paced picked more_is short set_is after =
    let due : ℕ → ℕ = λ t. one (nat_le t later) in
    let keeps : SessionState → ℕ = λ it. keeps_under_way it list later in
    let probes : SessionState → ℕ = λ it. one (may_probe it later) in
    let within : place < length times = omega (arith, there, lane.sized) in
    let left = session_leaves before list room later turn new (subst (λ h. Serves h room later turn new) heard_is serves) (subst (λ h. h.end.progress.carried ≤ h.end.progress.sent) heard_is order) paced in
    let none_due : due (time_of times2 place) ≡ 0 = ap one (lt-leb (time_of times2 place) later after) in
    let times_are : sum_by due times2 + due (time_of times place) ≡ sum_by due times + due (time_of times2 place) =
    ap (λ l. sum_by due l + due (time_of times place)) set_is ∙ sum_by-set due times place (time_of times2 place) never within in
    let keeps_are = sum_by-set keeps sessions place new before there in
    let probes_are = sum_by-set probes sessions place new before there in
    let weights_are = sum_by-set weight sessions place new before there in
    let was_keeps : keeps (get_or sessions place before) ≡ keeps before = ap keeps (sym is) in
    let was_probes : probes (get_or sessions place before) ≡ probes before = ap probes (sym is) in
    let was_weight : weight (get_or sessions place before) ≡ weight before = ap weight (sym is) in
    let part : weight (get_or sessions place before) ≤ sum_by weight sessions = get_or-le-sum_by weight sessions place before there in
    let few : sum_by weight (set sessions place new) ≤ under_way_most = omega (arith, weights_are, was_weight, part, less, small, room_is, lane.sum, lane.few) in
    let most : sum_by keeps (set sessions place new) ≤ under_way_most =
    omega (arith, few, sum_by-le-sum_by keeps weight (set sessions place new) (keeps_less list later)) in
    elim picked [
      | inl come ↦
          let was_due : due (time_of times place) ≡ 1 = ap one (le-leb (time_of times place) later come.0) in
          let queue_is : length queue1 ≡ length queue = ap length come.1 in
          counted_due (sum_by due times) (sum_by due times2) (length queue) (length queue2) (sum_by probes sessions) (sum_by probes (set sessions place new))
          (sum_by keeps sessions) (sum_by keeps (set sessions place new)) (probes before) (probes new) (keeps before) (keeps new)
          (omega (arith, times_are, was_due, none_due)) (omega (arith, short, queue_is, one_most has_more)) (omega (arith, probes_are, was_probes)) (omega (arith, keeps_are, was_keeps)) (omega (arith, left)) most
      | inr waited ↦
          let queue_is : length queue ≡ suc (length queue1) = ap length waited.1 in
          let leaves_is : one has_more ≡ one (leaves turn) = ap one (more_is ∙ more_leaves turn room waited.0) in
          counted_waited (sum_by due times) (sum_by due times2) (length queue) (length queue2) (sum_by probes sessions) (sum_by probes (set sessions place new))
          (sum_by keeps sessions) (sum_by keeps (set sessions place new)) (probes before) (probes new) (keeps before) (keeps new) (one (leaves turn))
          (omega (arith, times_are, none_due)) (omega (arith, short, queue_is, leaves_is)) (omega (arith, probes_are, was_probes)) (omega (arith, keeps_are, was_keeps)) left most
    ]
  where
    counted_due : (d d2 q q2 p p2 k k2 b b2 h h2 : ℕ) → d2 + 1 ≡ d → q2 ≤ q + 1 → p2 + b ≡ p + b2 → k2 + h ≡ k + h2 → b2 + h ≤ b + h2 → k2 ≤ 2048
        → 2 * d2 + q2 + p2 + (2048 - k2) < 2 * d + q + p + (2048 - k)
    counted_due d d2 q q2 p p2 k k2 b b2 h h2 days queues probes keeps left most = omega arith

    counted_waited : (d d2 q q2 p p2 k k2 b b2 h h2 l : ℕ) → d2 ≤ d → q2 + 1 ≤ q + l → p2 + b ≡ p + b2 → k2 + h ≡ k + h2 → b2 + h + l ≤ b + h2 → k2 ≤ 2048
        → 2 * d2 + q2 + p2 + (2048 - k2) < 2 * d + q + p + (2048 - k)
    counted_waited d d2 q q2 p p2 k k2 b b2 h h2 l days queues probes keeps left most = omega arith

pub turns_few : (sessions : List SessionState) (queue times : List ℕ) (list clock : ℕ) → length times ≡ length sessions
    → turns_of sessions queue times list clock ≤ 3 * length sessions + length queue + 2048
turns_few sessions queue times list clock sized =
    omega (arith, sized, count_by-le-length (λ (at : ℕ). nat_le at clock) times, count_by-le-length (λ (it : SessionState). may_probe it clock) sessions)

pub look_later : (turn : Turn) (clock : ℕ) → clock < never → clock < look_time turn clock
look_later Held clock early = omega (arith, early)
look_later (Does (Publish from count)) clock early = omega (arith, early)
look_later (Does (Probe number opening)) clock early = omega (arith, early)
look_later (Does (Wake at)) clock early = omega (arith, early)
look_later (Does Idle) clock early = omega (arith, early)
