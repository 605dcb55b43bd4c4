-- A session's end gets on.
use Rattle.std.proofs.Common.{◌≡◌, ◌⊎◌, ℕ, ◌+◌, ◌-◌, ◌*◌, ◌<◌, ◌≤◌, ◌==◌, nat_lt, nat_le, ◌&&◌, ◌||◌, not, if◌then◌else◌, max, Bool, true, false, Option, Some, None, List, [], ◌∷◌, length, refl, sym, ap, subst, ◌∙◌, inl, inr, arith}
use Rattle.std.specs.Prelude.{is_some, is_none}
use Rattle.std.proofs.lemmas.Bool.{cases_lt, and_parts, or_parts, ltb-true, ltb-false, lt-ltb, le-ltb, le-leb, eq-eqb, eqb-true, true≢false}
use Rattle.krb_engine.specs.declared.pause.Pause.{Pause}
use Rattle.krb_engine.specs.Pause.{begun}
use Rattle.krb_carry.specs.Progress.{resumed}
use Rattle.krb_carry.specs.declared.receipt.Finding.{Finding}
use Rattle.krb_carry.specs.declared.receipt.Finding.TheVariants.{Repeat, Delivered, Older, Forked}
use Rattle.krb_carry.specs.declared.receipt.Receipt.{Receipt}
use Rattle.krb_carry.specs.Receipt.{Finds}
use Rattle.krb_engine.specs.declared.sending.Asks.{Asks}
use Rattle.krb_engine.specs.declared.sending.Asks.TheVariants as asks
use Rattle.krb_engine.specs.declared.sending.Command.{Command}
use Rattle.krb_engine.specs.declared.sending.Command.TheVariants.{Publish, Probe, Wake, Idle}
use Rattle.krb_engine.specs.declared.sending.Heard.{Heard}
use Rattle.krb_engine.specs.Limits.{again_first, probe_first, window_most, service_most, room_pause}
use Rattle.krb_engine.specs.SendingState.{SendingState, IsEnd}
use Rattle.krb_engine.proofs.NotedLemmas.{of_noted}
use Rattle.krb_engine.specs.declared.sending.Stands.TheVariants as standings
use Rattle.krb_engine.specs.Sending.{is_over, never, end_of, may_ask, is_lost, lost, looked, is_settled, batch, is_free, published, is_unanswered, probed, has_opening, wake_time, heard_of, settled, sealing_room, found, is_asked, is_refused, asked, heeded, held, noted, stands, stands_by, with_list, confirmed, ask_end, held_end, again_end, probe_end, room_end}
use Rattle.krb_engine.specs.Calls.{Hears, Serves, Rests}
use Rattle.krb_engine.specs.Laws.{Call, Sealed, Confirmed, Received, Listed, Reconnected, Served, Answers}
use Rattle.krb_engine.specs.Liveness.{taken_to, Round, receipt_of, IsGood, GoesOn, RoundsDeliver, GoodRoundsHappen, AllIsDone, WakesAreToCome, HoldsNoRoom, StoppedHoldNoRoom, IdleIsDone, AsksAreHeeded, RefusalsAreTold, MoreMayBeSealed}

-- ---- receipts

settled_progress_end : (old : SendingState) (number : ℕ) → IsEnd old → number ≤ old.progress.next → (b : Bool) → nat_lt old.progress.carried number ≡ b
    → (number ≤ (if b then resumed old.progress.next number 0 else old.progress).carried)
    × ((if b then resumed old.progress.next number 0 else old.progress).carried ≤ (if b then resumed old.progress.next number 0 else old.progress).sent)
    × ((if b then resumed old.progress.next number 0 else old.progress).sent ≤ (if b then resumed old.progress.next number 0 else old.progress).next)
    × ((if b then resumed old.progress.next number 0 else old.progress).next ≡ old.progress.next)
settled_progress_end old number is le true test = (omega arith, omega arith, le, refl)
settled_progress_end old number is le false test = (ltb-false old.progress.carried number test, is.carried, is.sent, refl)

found_goes : (old : SendingState) (receipt : Receipt) (now : ℕ) (finding : Finding) → IsEnd old → old.ended ≡ None → receipt.number ≤ old.progress.next
    → Finds old.done old.progress.next receipt.history receipt finding
    → GoesOn old (found old receipt.number now finding) × ((found old receipt.number now finding).done ≡ max old.done receipt.number)
found_goes old receipt now Repeat is none le finds = (record { next = refl; ended = none; end = is }, omega (arith, finds))
found_goes old receipt now Delivered is none le finds =
    let p = settled_progress_end old receipt.number is le (nat_lt old.progress.carried receipt.number) refl in
    (record { next = p.3; ended = none; end = record { done = p.0; carried = p.1; sent = p.2; window = omega (arith, is.window) } }, omega (arith, finds.0))
found_goes old receipt now Older is none le finds = absurd (omega (arith, finds.1, le))
found_goes old receipt now Forked is none le finds = absurd (finds.2 refl)

heeded_goes : (old : SendingState) (number : ℕ) (it : Asks) (now : ℕ) → IsEnd old → old.ended ≡ None
    → GoesOn old (heeded old number it now) × ((heeded old number it now).done ≡ old.done)
heeded_goes old number it now is none = by_test (is_asked old number it now)
  where
    by_test : (b : Bool) → GoesOn old (if b then asked old it now else noted old number it) × ((if b then asked old it now else noted old number it).done ≡ old.done)
    by_test true = (record { next = refl; ended = none; end = record { done = omega arith; carried = omega arith; sent = omega (arith, is.done, is.carried, is.sent); window = omega arith } }, refl)
    by_test false = of_noted (λ s. GoesOn old s × (s.done ≡ old.done)) old number it
        (record { next = refl; ended = none; end = is }, refl)
        (record { next = refl; ended = none; end = record { done = is.done; carried = is.carried; sent = is.sent; window = is.window } }, refl)

hears_goes : (old : SendingState) (receipt : Receipt) (it : Asks) (now : ℕ) (heard : Heard) (new : SendingState) → IsEnd old → old.ended ≡ None → receipt.number ≤ old.progress.next
    → Hears old receipt.history receipt it now heard new
    → GoesOn old new × (new.done ≡ max old.done receipt.number)
hears_goes old receipt it now heard new is none le (inl stops) = absurd (true≢false (sym stops.0 ∙ ap (λ e. is_some e) none))
hears_goes old receipt it now heard new is none le (inr hears) =
    let finding = (hears.1).0 in
    let between = found old receipt.number now finding in
    let first = found_goes old receipt now finding is none le (hears.1).1 in
    let second = heeded_goes between receipt.number it now (first.0).end (first.0).ended in
    subst (λ (s : SendingState). GoesOn old s × (s.done ≡ max old.done receipt.number)) (sym (hears.1).3)
    (record { next = (second.0).next ∙ (first.0).next; ended = (second.0).ended; end = (second.0).end }, second.1 ∙ first.1)

-- ---- services

looked_goes : (old : SendingState) (now : ℕ) → IsEnd old → old.ended ≡ None → GoesOn old (looked old now) × ((looked old now).done ≡ old.done)
looked_goes old now is none = by_test (is_lost old now)
  where
    by_test : (b : Bool) → GoesOn old (if b then lost old now else old) × ((if b then lost old now else old).done ≡ old.done)
    by_test true = (record { next = refl; ended = none; end = record { done = is.done; carried = omega arith; sent = omega (arith, is.carried, is.sent); window = omega (arith, is.window) } }, refl)
    by_test false = (record { next = refl; ended = none; end = is }, refl)

serves_goes : (state : SendingState) (room now : ℕ) (command : Command) (new : SendingState) → IsEnd state → state.ended ≡ None → Serves state room now command new
    → GoesOn state new × (new.done ≡ state.done)
serves_goes state room now (Publish from count) new is none serves =
    subst (λ (s : SendingState). GoesOn state s × (s.done ≡ state.done)) (sym serves.5)
    (record { next = refl; ended = none; end = record { done = is.done; carried = omega (arith, is.carried); sent = omega (arith, serves.3, is.sent); window = is.window } }, refl)
serves_goes state room now (Probe number opening) new is none serves =
    subst (λ (s : SendingState). GoesOn state s × (s.done ≡ state.done)) (sym serves.4)
    (record { next = refl; ended = none; end = record { done = is.done; carried = is.carried; sent = is.sent; window = is.window } }, refl)
serves_goes state room now (Wake at) new is none serves =
    subst (λ (s : SendingState). GoesOn state s × (s.done ≡ state.done)) (sym serves.4)
    (record { next = refl; ended = none; end = is }, refl)
serves_goes state room now Idle new is none serves =
    subst (λ (s : SendingState). GoesOn state s × (s.done ≡ state.done)) (sym serves.1)
    (record { next = refl; ended = none; end = is }, refl)

-- the receiver goes on, and not past what is stored
taken_within : (state : SendingState) (room now : ℕ) (command : Command) (new : SendingState) (number : ℕ) → IsEnd state → number ≤ state.progress.next → Serves state room now command new
    → (number ≤ taken_to number command) × (taken_to number command ≤ state.progress.next)
taken_within state room now (Publish from count) new number is le serves = by_test (nat_le from number && nat_lt number (from + count)) refl
  where
    by_test : (b : Bool) → (nat_le from number && nat_lt number (from + count)) ≡ b → (number ≤ (if b then from + count else number)) × ((if b then from + count else number) ≤ state.progress.next)
    by_test true test =
        let below = ltb-true number (from + count) (and_parts (nat_le from number) (nat_lt number (from + count)) test).1 in
        (omega (arith, below), omega (arith, serves.1, serves.3, serves.4, is.sent))
    by_test false test = (omega arith, le)
taken_within state room now (Probe other opening) new number is le serves = by_test (other == number) refl
  where
    by_test : (b : Bool) → (other == number) ≡ b → (number ≤ (if b then other + 1 else number)) × ((if b then other + 1 else number) ≤ state.progress.next)
    by_test true test = (omega (arith, eqb-true other number test), omega (arith, (serves.3).0, is.carried, is.sent))
    by_test false test = (omega arith, le)
taken_within state room now (Wake at) new number is le serves = (omega arith, le)
taken_within state room now Idle new number is le serves = (omega arith, le)

-- ---- where nothing holds it back

record IsReady (state : SendingState) (now : ℕ) : Type 0 where
  pub sent : state.progress.sent ≡ state.done
  pub carried : state.progress.carried ≡ state.done
  pub ended : state.ended ≡ None
  pub more : state.done < state.progress.next
  pub window : 0 < state.window
  pub free : is_free state now ≡ true

has_batch : (state : SendingState) (now room : ℕ) → IsReady state now → 0 < room → 0 < batch state room
has_batch state now room is some = omega (arith, by_test (nat_lt state.done state.recovers), some, is.window, is.sent, is.carried, is.more)
  where
    by_test : (t : Bool) → 0 < (if t then state.done + state.window - state.progress.sent else service_most)
    by_test true = omega (arith, is.window, is.sent)
    by_test false = omega arith

rests_not : (state : SendingState) (now room : ℕ) → IsReady state now → 0 < room → Rests state room now → ⊥
rests_not state now room is some (inl none) = omega (arith, none, has_batch state now room is some)
rests_not state now room is some (inr held) = true≢false (sym is.free ∙ held)

ready_leaves : (state : SendingState) (room now : ℕ) (command : Command) (new : SendingState) → IsReady state now → 0 < room → Serves state room now command new
    → state.done < taken_to state.done command
ready_leaves state room now (Publish from count) new is some serves =
    let a : nat_le from state.done ≡ true = le-leb from state.done (omega (arith, serves.4, is.sent)) in
    let b : nat_lt state.done (from + count) ≡ true = lt-ltb state.done (from + count) (omega (arith, serves.1, serves.4, is.sent)) in
    let c : taken_to state.done (Publish from count) ≡ from + count =
    ap (λ t. if t && nat_lt state.done (from + count) then from + count else state.done) a
    ∙ ap (λ t. if true && t then from + count else state.done) b in
    omega (arith, c, serves.1, serves.4, is.sent)
ready_leaves state room now (Probe number opening) new is some serves = absurd (rests_not state now room is some serves.1)
ready_leaves state room now (Wake at) new is some serves = absurd (rests_not state now room is some serves.1)
ready_leaves state room now Idle new is some serves =
    let same : (is_some state.ended || (state.done == state.progress.next)) ≡ (state.done == state.progress.next) = ap (λ e. is_some e || (state.done == state.progress.next)) is.ended in
    absurd (omega (arith, is.more, eqb-true state.done state.progress.next (sym same ∙ serves.0)))

or_true : (b : Bool) → (b || true) ≡ true
or_true true = refl
or_true false = refl

free_then : (state : SendingState) (now : ℕ) → may_ask state.ask now ≡ true → is_free state now ≡ true
free_then state now may = ap (λ t. not state.is_held || t) may ∙ or_true (not state.is_held)

asked_is : (number done carried : ℕ) (c d : Bool) → number ≡ done → done < carried → c ≡ true → d ≡ true
    → (true && (number == done) && nat_lt done carried && c && d) ≡ true
asked_is number done carried c d same lt is_c is_d =
    ap (λ t. true && t && nat_lt done carried && c && d) (eq-eqb number done same)
    ∙ (ap (λ t. true && true && t && c && d) (lt-ltb done carried lt)
    ∙ (ap (λ t. true && true && true && t && d) is_c
    ∙ ap (λ t. true && true && true && true && t) is_d))

leaves_now : (old : SendingState) (room now : ℕ) (command : Command) (new : SendingState) → IsEnd old → old.ended ≡ None → old.done < old.progress.next → 0 < room → is_over old.again now ≡ true
    → may_ask old.ask now ≡ true → Serves (looked (heeded old old.done asks.Missing now) now) room now command new
    → old.done < taken_to old.done command
leaves_now old room now command new is none more some over may served = by_asked (is_asked old old.done asks.Missing now) refl served
  where
    of_asked : Serves (looked (asked old asks.Missing now) now) room now command new → old.done < taken_to old.done command
    of_asked serves =
        let its = asked old asks.Missing now in
        let not_lost : is_lost its now ≡ false = ap (λ t. t && is_over its.again now) (le-ltb old.done old.done (omega arith)) in
        let same : looked its now ≡ its = ap (λ t. if t then lost its now else its) not_lost in
        ready_leaves its room now command new (record { sent = refl; carried = refl; ended = none; more = more; window = omega arith; free = refl }) some
        (subst (λ (s : SendingState). Serves s room now command new) same serves)

    of_lost : old.progress.carried ≡ old.done → (b : Bool) → is_lost old now ≡ b → Serves (if b then lost old now else old) room now command new → old.done < taken_to old.done command
    of_lost all true test serves =
        ready_leaves (lost old now) room now command new
        (record { sent = all; carried = all; ended = none; more = more; window = omega (arith, is.window); free = free_then (lost old now) now may }) some serves
    of_lost all false test serves =
        let none_under_way : old.progress.sent ≤ old.progress.carried = elim (cases_lt old.progress.carried old.progress.sent) [
          | inl lt ↦
              let wrong : is_lost old now ≡ true = ap (λ t. t && is_over old.again now) (lt-ltb old.progress.carried old.progress.sent lt) ∙ ap (λ t. true && t) over in
              absurd (true≢false (sym wrong ∙ test))
          | inr le ↦ le
        ] in
        ready_leaves old room now command new
        (record { sent = omega (arith, none_under_way, all, is.carried); carried = all; ended = none; more = more; window = is.window; free = free_then old now may }) some serves

    by_asked : (b : Bool) → is_asked old old.done asks.Missing now ≡ b → Serves (looked (if b then asked old asks.Missing now else old) now) room now command new → old.done < taken_to old.done command
    by_asked true test serves = of_asked serves
    by_asked false test serves =
        let all : old.progress.carried ≡ old.done = elim (cases_lt old.done old.progress.carried) [
          | inl lt ↦
              let wrong : is_asked old old.done asks.Missing now ≡ true =
              asked_is old.done old.done old.progress.carried (is_none old.ended) (may_ask old.ask now) refl lt (ap (λ e. is_none e) none) may in
              absurd (true≢false (sym wrong ∙ test))
          | inr le ↦ omega (arith, le, is.done)
        ] in
        of_lost all (is_lost old now) refl serves

-- ---- rounds

found_same : (old : SendingState) (own : List ℕ) (receipt : Receipt) (now : ℕ) (finding : Finding) → receipt.number ≤ old.done → Finds old.done old.progress.next own receipt finding
    → found old receipt.number now finding ≡ old
found_same old own receipt now Repeat le finds = refl
found_same old own receipt now Delivered le finds = absurd (omega (arith, le, finds.0))
found_same old own receipt now Older le finds = absurd (omega (arith, le, finds.0))
found_same old own receipt now Forked le finds = absurd (omega (arith, le, finds.0))

heard_own : (old : SendingState) (own : List ℕ) (receipt : Receipt) (it : Asks) (now : ℕ) (heard : Heard) (new : SendingState) → old.ended ≡ None → receipt.number ≤ old.done → Hears old own receipt it now heard new
    → new ≡ heeded old receipt.number it now
heard_own old own receipt it now heard new none le (inl stops) = absurd (true≢false (sym stops.0 ∙ ap (λ e. is_some e) none))
heard_own old own receipt it now heard new none le (inr hears) =
    (hears.1).3 ∙ ap (λ (s : SendingState). heeded s receipt.number it now) (found_same old own receipt now (hears.1).0 le (hears.1).1)

heard_same : (old : SendingState) (receipt : Receipt) (it : Asks) (now : ℕ) (heard : Heard) (new : SendingState) → old.ended ≡ None → receipt.number ≤ old.done
    → Hears old receipt.history receipt it now heard new → new ≡ heeded old receipt.number it now
heard_same old receipt it now heard new none le hears = heard_own old receipt.history receipt it now heard new none le hears

more_is_taken : (old : SendingState) (it : Round) (new : SendingState) → IsEnd old → old.ended ≡ None → (good : IsGood old it new) → old.done < old.progress.next → it.demanded ≡ old.done
    → old.done < taken_to it.demanded it.command
more_is_taken old it new is none good more same =
    let receipt = receipt_of it.demanded it.history in
    let between = heard_same old receipt asks.Missing it.now good.heard good.between none (omega (arith, same)) good.hears in
    let asked_for : good.between ≡ heeded old old.done asks.Missing it.now = between ∙ ap (λ n. heeded old n asks.Missing it.now) same in
    let serves = subst (λ (s : SendingState). Serves (looked s it.now) it.room it.now it.command good.served) asked_for good.serves in
    subst (λ n. old.done < taken_to n it.command) (sym same)
    (leaves_now old it.room it.now it.command good.served is none more good.room good.again good.ask serves)

pub rounds_deliver : RoundsDeliver
rounds_deliver old it new is none good =
    let first = hears_goes old (receipt_of it.demanded it.history) asks.Missing it.now good.heard good.between is none good.to good.hears in
    let second = looked_goes good.between it.now (first.0).end (first.0).ended in
    let state = looked good.between it.now in
    let third = serves_goes state it.room it.now it.command good.served (second.0).end (second.0).ended good.serves in
    let next : state.progress.next ≡ old.progress.next = (second.0).next ∙ (first.0).next in
    let within = taken_within state it.room it.now it.command good.served it.demanded (second.0).end (omega (arith, good.to, next)) good.serves in
    let last = hears_goes good.served (receipt_of (taken_to it.demanded it.command) it.later) asks.Nothing it.now good.last new (third.0).end (third.0).ended (omega (arith, within.1, (third.0).next)) good.hears_again in
    let done : new.done ≡ max (max old.done it.demanded) (taken_to it.demanded it.command) = omega (arith, last.1, third.1, second.1, first.1) in (
      record { next = (last.0).next ∙ ((third.0).next ∙ next); ended = (last.0).ended; end = (last.0).end },
      omega (arith, done),
      λ more. elim (cases_lt old.done it.demanded) [
        | inl lt ↦ omega (arith, done, lt)
        | inr le ↦ omega (arith, done, more_is_taken old it new is none good more (omega (arith, le, good.from)))
      ],
    )

-- whenever it is served it has a command, and whatever receipt comes, it hears it
abbrev ServedSo : SendingState → ℕ → ℕ → Type 0
ServedSo state room now = (command : Command) × ((new : SendingState) × Serves state room now command new)

serves_somehow : (state : SendingState) (room now : ℕ) → ServedSo state room now
serves_somehow state room now = by_settled (is_settled state) refl
  where
    by_unanswered : (b : Bool) → is_unanswered state now ≡ b → is_settled state ≡ false → Rests state room now → ServedSo state room now
    by_unanswered true test unsettled rests =
        let due = ltb-true state.done state.progress.carried (and_parts (nat_lt state.done state.progress.carried) (is_over state.probe now) test).0 in
        (Probe (state.progress.carried - 1) (has_opening state), (probed state now, (unsettled, rests, test, (omega (arith, due), refl), refl)))
    by_unanswered false test unsettled rests = (Wake (wake_time state (batch state room) room now), (state, (unsettled, rests, test, refl, refl)))

    by_free : (b : Bool) → is_free state now ≡ b → 0 < batch state room → is_settled state ≡ false → ServedSo state room now
    by_free true free some unsettled =
        (Publish state.progress.sent (batch state room), (published state (batch state room) now, (unsettled, some, free, refl, refl, refl)))
    by_free false held some unsettled = by_unanswered (is_unanswered state now) refl unsettled (inr held)

    by_settled : (b : Bool) → is_settled state ≡ b → ServedSo state room now
    by_settled true is = (Idle, (state, (is, refl)))
    by_settled false is = elim (cases_lt 0 (batch state room)) [
      | inl some ↦ by_free (is_free state now) refl some is
      | inr none ↦ by_unanswered (is_unanswered state now) refl is (inl (omega (arith, none)))
    ]

abbrev HeardSo : SendingState → Receipt → Asks → ℕ → Type 0
HeardSo old receipt it now = (heard : Heard) × ((new : SendingState) × Hears old receipt.history receipt it now heard new)

hears_somehow : (old : SendingState) (receipt : Receipt) (it : Asks) (now : ℕ) → old.ended ≡ None → receipt.number ≤ old.progress.next → HeardSo old receipt it now
hears_somehow old receipt it now none le = elim (cases_lt old.done receipt.number) [
  | inl lt ↦ by Delivered (lt, le, refl)
  | inr ge ↦ by Repeat ge
]
  where
    by : (finding : Finding) → Finds old.done old.progress.next receipt.history receipt finding → HeardSo old receipt it now
    by finding finds =
        (heard_of finding, (heeded (found old receipt.number now finding) receipt.number it now, inr (ap (λ e. is_some e) none, (finding, finds, refl, refl))))

pub good_rounds_happen : GoodRoundsHappen
good_rounds_happen old demanded room now is none from to some again ask =
    let receipt = receipt_of demanded [] in
    let heard = hears_somehow old receipt asks.Missing now none to in
    let between = (heard.1).0 in
    let first = hears_goes old receipt asks.Missing now heard.0 between is none to (heard.1).1 in
    let second = looked_goes between now (first.0).end (first.0).ended in
    let state = looked between now in
    let served = serves_somehow state room now in
    let after = (served.1).0 in
    let third = serves_goes state room now served.0 after (second.0).end (second.0).ended (served.1).1 in
    let next : state.progress.next ≡ old.progress.next = (second.0).next ∙ (first.0).next in
    let within = taken_within state room now served.0 after demanded (second.0).end (omega (arith, to, next)) (served.1).1 in
    let last = hears_somehow after (receipt_of (taken_to demanded served.0) []) asks.Nothing now (third.0).ended (omega (arith, within.1, (third.0).next)) in (
      record { demanded = demanded; history = []; room = room; now = now; command = served.0; later = [] },
      (
        (last.1).0,
        refl,
        refl,
        record {
          from = from;
          to = to;
          room = some;
          again = again;
          ask = ask;
          heard = heard.0;
          between = between;
          hears = (heard.1).1;
          served = after;
          serves = (served.1).1;
          last = last.0;
          hears_again = (last.1).1;
        },
      ),
    )

pub all_is_done : AllIsDone
all_is_done old [] new is none leads enough =
    let same : new.done ≡ old.done = ap (λ (s : SendingState). s.done) leads in
    omega (arith, same, enough, is.done, is.carried, is.sent)
all_is_done old (it ∷ rounds) new is none leads enough =
    let between = leads.0 in
    let step = rounds_deliver old it between is none leads.1 in
    let goes = step.0 in
    let rest : between.progress.next ≤ between.done + length rounds = elim (cases_lt old.done old.progress.next) [
      | inl lt ↦ omega (arith, enough, step.2 lt, goes.next)
      | inr le ↦ omega (arith, le, step.1, goes.next)
    ] in
    all_is_done between rounds new goes.end goes.ended leads.2 rest ∙ goes.next

-- ---- times

not_over : (pause : Pause) (now : ℕ) → now < never → is_over pause now ≡ false → now < end_of pause
not_over pause now early test = elim (cases_lt now (pause.since + pause.length)) [
  | inl lt ↦ omega (arith, lt, early)
  | inr le ↦ absurd (true≢false (sym (le-leb (pause.since + pause.length) now le) ∙ test))
]

and_false : (a b : Bool) → (a && b) ≡ false → a ≡ true → b ≡ false
and_false true b test is = test
and_false false b test is = absurd (true≢false (sym is))

ask_to_come : (ask : Option Pause) (now : ℕ) → now < never → may_ask ask now ≡ false → now < ask_end ask
ask_to_come None now early test = absurd (true≢false test)
ask_to_come (Some pause) now early test = not_over pause now early test

held_to_come : (state : SendingState) (room now : ℕ) → now < never → Rests state room now → now < held_end state (batch state room)
held_to_come state room now early rests = by_test (nat_lt 0 (batch state room)) refl
  where
    by_rests : Rests state room now → 0 < batch state room → now < ask_end state.ask
    by_rests (inl none) some = absurd (omega (arith, none, some))
    by_rests (inr held) some = ask_to_come state.ask now early (or_parts (not state.is_held) (may_ask state.ask now) held).1

    by_test : (b : Bool) → nat_lt 0 (batch state room) ≡ b → now < (if b then ask_end state.ask else never)
    by_test true test = by_rests rests (ltb-true 0 (batch state room) test)
    by_test false test = early

again_to_come : (old : SendingState) (now : ℕ) → now < never → now < again_end (looked old now)
again_to_come old now early = by_lost (is_lost old now) refl
  where
    of_old : (b : Bool) → nat_lt old.progress.carried old.progress.sent ≡ b → is_lost old now ≡ false → now < (if b then end_of old.again else never)
    of_old true test kept = not_over old.again now early (and_false (nat_lt old.progress.carried old.progress.sent) (is_over old.again now) kept test)
    of_old false test kept = early

    of_lost : (b : Bool) → nat_lt old.progress.carried old.progress.carried ≡ b → now < (if b then end_of (lost old now).again else never)
    of_lost true test = absurd (omega (arith, ltb-true old.progress.carried old.progress.carried test))
    of_lost false test = early

    by_lost : (b : Bool) → is_lost old now ≡ b → now < again_end (if b then lost old now else old)
    by_lost true test = of_lost (nat_lt old.progress.carried old.progress.carried) refl
    by_lost false test = of_old (nat_lt old.progress.carried old.progress.sent) refl test

probe_to_come : (state : SendingState) (now : ℕ) → now < never → is_unanswered state now ≡ false → now < probe_end state
probe_to_come state now early test = by_test (nat_lt state.done state.progress.carried) refl
  where
    by_test : (b : Bool) → nat_lt state.done state.progress.carried ≡ b → now < (if b then end_of state.probe else never)
    by_test true due = not_over state.probe now early (and_false (nat_lt state.done state.progress.carried) (is_over state.probe now) test due)
    by_test false due = early

room_to_come : (room now : ℕ) → now < never → now < room_end room now
room_to_come room now early = by_test (room == 0)
  where
    by_test : (b : Bool) → now < (if b then end_of (begun room_pause now) else never)
    by_test true = omega (arith, early)
    by_test false = early

pub wakes_are_to_come : WakesAreToCome
wakes_are_to_come old room now at new early serves =
    omega (
      arith,
      serves.3,
      room_to_come room now early,
      held_to_come (looked old now) room now early serves.1,
      again_to_come old now early,
      probe_to_come (looked old now) now early serves.2,
    )

-- ---- stopped

found_holds : (old : SendingState) (number now : ℕ) (finding : Finding) → is_some old.ended ≡ false → HoldsNoRoom (found old number now finding)
found_holds old number now Repeat none is = absurd (true≢false (sym is ∙ none))
found_holds old number now Delivered none is = absurd (true≢false (sym is ∙ none))
found_holds old number now Older none is = refl
found_holds old number now Forked none is = refl

heeded_holds : (old : SendingState) (number : ℕ) (it : Asks) (now : ℕ) → HoldsNoRoom old → HoldsNoRoom (heeded old number it now)
heeded_holds old number it now holds = by_test (is_asked old number it now)
  where
    by_test : (b : Bool) → HoldsNoRoom (if b then asked old it now else noted old number it)
    by_test true = λ is. refl
    by_test false = of_noted HoldsNoRoom old number it holds holds

looked_holds : (old : SendingState) (now : ℕ) → HoldsNoRoom old → HoldsNoRoom (looked old now)
looked_holds old now holds = by_test (is_lost old now)
  where
    by_test : (b : Bool) → HoldsNoRoom (if b then lost old now else old)
    by_test true = λ is. refl
    by_test false = holds

stopped_settles : (state : SendingState) → is_some state.ended ≡ true → is_settled state ≡ true
stopped_settles state is = ap (λ b. b || (state.done == state.progress.next)) is

served_holds : (state : SendingState) (room now : ℕ) (command : Command) (new : SendingState) → HoldsNoRoom state → Serves state room now command new → HoldsNoRoom new
served_holds state room now (Publish from count) new holds serves =
    subst HoldsNoRoom (sym serves.5) (λ is. absurd (true≢false (sym (stopped_settles state is) ∙ serves.0)))
served_holds state room now (Probe number opening) new holds serves = subst HoldsNoRoom (sym serves.4) holds
served_holds state room now (Wake at) new holds serves = subst HoldsNoRoom (sym serves.4) holds
served_holds state room now Idle new holds serves = subst HoldsNoRoom (sym serves.1) holds

confirmed_holds : (old : SendingState) (offset now : ℕ) (b : Bool) → HoldsNoRoom old → HoldsNoRoom (if b then confirmed old offset now else old)
confirmed_holds old offset now true holds is = omega (arith, holds is)
confirmed_holds old offset now false holds is = holds is

listed_holds : (old : SendingState) (list : ℕ) (b : Bool) → HoldsNoRoom old → HoldsNoRoom (if b then old else with_list old list)
listed_holds old list true holds is = holds is
listed_holds old list false holds is = refl

heard_holds : (old : SendingState) (own : List ℕ) (receipt : Receipt) (it : Asks) (now : ℕ) (heard : Heard) (new : SendingState) → HoldsNoRoom old → Hears old own receipt it now heard new → HoldsNoRoom new
heard_holds old own receipt it now heard new holds (inl stops) = subst HoldsNoRoom (sym stops.2) holds
heard_holds old own receipt it now heard new holds (inr hears) =
    let finding = (hears.1).0 in
    subst HoldsNoRoom (sym (hears.1).3) (heeded_holds (found old receipt.number now finding) receipt.number it now (found_holds old receipt.number now finding hears.0))

holds_after : (old : SendingState) (call : Call) (new : SendingState) → HoldsNoRoom old → Answers old call new → HoldsNoRoom new
holds_after old (Sealed count) new holds is = subst HoldsNoRoom (sym is) holds
holds_after old (Confirmed number offset now) new holds is = subst HoldsNoRoom (sym is.2) (confirmed_holds old offset now is.0 holds)
holds_after old (Received own receipt it now) new holds is = heard_holds old own receipt it now is.0 new holds is.1
holds_after old (Listed list) new holds is = subst HoldsNoRoom (sym is) (listed_holds old list (list == old.list) holds)
holds_after old Reconnected new holds is = subst HoldsNoRoom (sym is) (λ stopped. refl)
holds_after old (Served room now) new holds is = served_holds (looked old now) room now is.0 new (looked_holds old now holds) is.1

pub stopped_hold_no_room : StoppedHoldNoRoom
stopped_hold_no_room old [] new holds leads = subst HoldsNoRoom (sym leads) holds
stopped_hold_no_room old (call ∷ calls) new holds leads =
    stopped_hold_no_room leads.0 calls new (holds_after old call leads.0 holds leads.1) leads.2

-- ---- what is done

looked_ended : (old : SendingState) (now : ℕ) → ((looked old now).ended ≡ old.ended) × ((looked old now).done ≡ old.done) × ((looked old now).progress.next ≡ old.progress.next)
looked_ended old now = by_test (is_lost old now)
  where
    by_test : (t : Bool)
        → ((if t then lost old now else old).ended ≡ old.ended) × ((if t then lost old now else old).done ≡ old.done) × ((if t then lost old now else old).progress.next ≡ old.progress.next)
    by_test true = (refl, refl, refl)
    by_test false = (refl, refl, refl)

pub idle_is_done : IdleIsDone
idle_is_done old room now new serves =
    let same = looked_ended old now in
    by_ended (is_some (looked old now).ended) (ap (λ e. is_some e) (sym same.0)) (ap (λ d. (looked old now).done == d) (sym same.2)) serves.0
  where
    by_ended : (e : Bool) → is_some old.ended ≡ e → ((looked old now).done == old.progress.next) ≡ ((looked old now).done == (looked old now).progress.next)
        → (e || ((looked old now).done == (looked old now).progress.next)) ≡ true → (is_some old.ended ≡ true) ⊎ (old.done ≡ old.progress.next)
    by_ended true is next settled = inl is
    by_ended false is next settled = inr (sym (looked_ended old now).1 ∙ eqb-true (looked old now).done old.progress.next (next ∙ settled))

pub asks_are_heeded : AsksAreHeeded
asks_are_heeded old own receipt asks.Nothing now heard new none same due some may hears = absurd (some refl)
asks_are_heeded old own receipt asks.Missing now heard new none same due some may hears =
    let test : is_asked old receipt.number asks.Missing now ≡ true =
    asked_is receipt.number old.done old.progress.carried (is_none old.ended) (may_ask old.ask now) same due (ap (λ e. is_none e) none) may in
    let is : new ≡ asked old asks.Missing now =
    heard_own old own receipt asks.Missing now heard new none (omega (arith, same)) hears ∙ ap (λ t. if t then asked old asks.Missing now else old) test in (
      ap (λ (s : SendingState). s.progress.sent) is,
      ap (λ (s : SendingState). s.progress.carried) is,
      ap (λ (s : SendingState). s.window) is,
      λ refused. absurd (let e : asks.Missing ≡ asks.Refused = refused in cc),
    )
asks_are_heeded old own receipt asks.Refused now heard new none same due some may hears =
    let test : is_asked old receipt.number asks.Refused now ≡ true =
    asked_is receipt.number old.done old.progress.carried (is_none old.ended) (may_ask old.ask now) same due (ap (λ e. is_none e) none) may in
    let is : new ≡ asked old asks.Refused now =
    heard_own old own receipt asks.Refused now heard new none (omega (arith, same)) hears ∙ ap (λ t. if t then asked old asks.Refused now else noted old receipt.number asks.Refused) test in (
      ap (λ (s : SendingState). s.progress.sent) is,
      ap (λ (s : SendingState). s.progress.carried) is,
      ap (λ (s : SendingState). s.window) is,
      λ refused. ap (λ (s : SendingState). s.is_held) is,
    )

refused_is : (number done next : ℕ) (c : Bool) → number ≡ done → done < next → c ≡ true → (true && (number == done) && nat_lt done next && c) ≡ true
refused_is number done next c same lt is_c =
    ap (λ t. true && t && nat_lt done next && c) (eq-eqb number done same)
    ∙ (ap (λ t. true && true && t && c) (lt-ltb done next lt)
    ∙ ap (λ t. true && true && true && t) is_c)

pub refusals_are_told : RefusalsAreTold
refusals_are_told old own receipt now heard new none same more hears =
    let is : new ≡ heeded old receipt.number asks.Refused now = heard_own old own receipt asks.Refused now heard new none (omega (arith, same)) hears in
    ap stands is ∙ by_asked (is_asked old receipt.number asks.Refused now)
  where
    stands_held : (s : SendingState) → s.ended ≡ None → s.is_held ≡ true → stands s ≡ Some standings.Refused
    stands_held s alive kept =
        let unanswered = nat_lt s.done s.progress.carried && nat_le (4 * probe_first) s.probe.length in
        let unconfirmed = nat_lt s.progress.carried s.progress.sent && nat_lt again_first s.again.length in
        ap (λ e. stands_by e s.is_held unanswered unconfirmed) alive ∙ ap (λ h. stands_by None h unanswered unconfirmed) kept

    by_asked : (b : Bool) → stands (if b then asked old asks.Refused now else noted old receipt.number asks.Refused) ≡ Some standings.Refused
    by_asked true = stands_held (asked old asks.Refused now) none refl
    by_asked false =
        let test : is_refused old receipt.number asks.Refused ≡ true =
        refused_is receipt.number old.done old.progress.next (is_none old.ended) same more (ap (λ e. is_none e) none) in
        ap (λ t. stands (if t then held old else old)) test ∙ stands_held (held old) none refl

pub more_may_be_sealed : MoreMayBeSealed
more_may_be_sealed state none few =
    let room : sealing_room state ≡ window_most - (state.progress.next - state.progress.carried) =
    ap (λ e. if is_some e then 0 else window_most - (state.progress.next - state.progress.carried)) none in
    omega (arith, room, few)
