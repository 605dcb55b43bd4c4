-- What is kept of a shard's sessions.
use Rattle.std.proofs.Common.{◌≡◌, ◌≢◌, ◌⊎◌, ℕ, zero, suc, ◌+◌, ◌-◌, ◌^◌, ◌<◌, ◌≤◌, ◌==◌, ◌||◌, if◌then◌else◌, Bool, true, false, List, [], ◌∷◌, ◌++◌, length, length-append, get_or, set, Option, Some, None, is_some, min, refl, sym, ap, subst, ◌∙◌, inl, inr, arith, get_or-set_other, get_or-set_same, length-set, eq-eqb}
use Rattle.std.proofs.lemmas.Bool.{true≢false, false≢true, cases_eq, cases_lt, eqb-true, le-leb}
use Rattle.std.proofs.Math.ListN.{get_or-append}
use Rattle.std.proofs.lemmas.List.{get_or_push}
use Rattle.std.proofs.lemmas.List.Folds.{list_any-append}
use Rattle.krb_engine.specs.declared.pause.Pause.{Pause}
use Rattle.krb_engine.specs.declared.receiving.Receiving.{Receiving}
use Rattle.krb_engine.specs.declared.receiving.Row.{Row}
use Rattle.krb_engine.specs.declared.receiving.Seen.{Seen}
use Rattle.krb_engine.specs.declared.sending.Asks.{Asks}
use Rattle.krb_engine.specs.Queue.{has}
use Rattle.krb_engine.specs.Receiving as engine
use Rattle.krb_engine.specs.Sending.{is_over}
use Rattle.krb_sender.specs.Times.{never, time_of}
use Rattle.krb_receiver.specs.declared.shard.Attempt.{Attempt}
use Rattle.krb_receiver.specs.Shard.{IsKept, IsShard, owes_again, receipt_time, settled, taken_with, with_last}

-- ---- places that are listed

or_true : (b : Bool) → (b || true) ≡ true
or_true true = refl
or_true false = refl

or_left : (b c : Bool) → b ≡ true → (b || c) ≡ true
or_left true c is = refl
or_left false c is = absurd (false≢true is)

pub has_last : (taken : List ℕ) (place : ℕ) → has (taken ++ place ∷ []) place ≡ true
has_last taken place =
    list_any-append (λ it. it == place) taken (place ∷ [])
    ∙ ap (λ b. has taken place || (b || false)) (eq-eqb place place refl)
    ∙ or_true (has taken place)

pub has_more : (taken : List ℕ) (place k : ℕ) → has taken k ≡ true → has (taken ++ place ∷ []) k ≡ true
has_more taken place k is =
    list_any-append (λ it. it == k) taken (place ∷ []) ∙ or_left (has taken k) (has (place ∷ []) k) is

pub has_less : (taken : List ℕ) (place k : ℕ) → k ≢ place → has (taken ++ place ∷ []) k ≡ true → has taken k ≡ true
has_less taken place k apart is =
    by_test (has taken k) (place == k) (λ same. apart (sym (eqb-true place k same))) (sym (list_any-append (λ it. it == k) taken (place ∷ [])) ∙ is)
  where
    or_first : (c : Bool) → (false || (c || false)) ≡ true → c ≡ true
    or_first true any = refl
    or_first false any = absurd (false≢true any)

    by_test : (b c : Bool) → (c ≡ true → ⊥) → (b || (c || false)) ≡ true → b ≡ true
    by_test true c differs any = refl
    by_test false c differs any = absurd (differs (or_first c any))

-- ---- one session

pub kept_later : (it : Receiving) (listed : Bool) (time clock later : ℕ) → clock ≤ later → IsKept it listed time clock → IsKept it listed time later
kept_later it listed time clock later le kept = record {
  since = omega (arith, le, kept.since);
  short = kept.short;
  listed = kept.listed;
  demanded = kept.demanded;
  time = kept.time;
}

kept_more : (it : Receiving) (listed more : Bool) (time clock : ℕ) → (listed ≡ true → more ≡ true) → IsKept it listed time clock → IsKept it more time clock
kept_more it listed more time clock stays kept = record {
  since = kept.since;
  short = kept.short;
  listed = λ is. stays (kept.listed is);
  demanded = kept.demanded;
  time = kept.time;
}

-- ---- all sessions

pub shard_later : (sessions : List Receiving) (receipts taken : List ℕ) (attempt attempt2 : Option Attempt) (wait wait2 : Option Pause) (clock later : ℕ)
    → clock ≤ later → (is_some attempt2 ≡ false → is_some attempt ≡ false)
    → ((pause : Pause) → wait2 ≡ Some pause → (pause.since ≤ later) × (pause.length ≤ 5000))
    → IsShard sessions receipts taken attempt wait clock → IsShard sessions receipts taken attempt2 wait2 later
shard_later sessions receipts taken attempt attempt2 wait wait2 clock later le idle waits shard = record {
  count = shard.count;
  sized = shard.sized;
  kept = λ k d lt. kept_later (get_or sessions k d) (has taken k) (time_of receipts k) clock later le (shard.kept k d lt);
  places = shard.places;
  none_taken = λ none. shard.none_taken (idle none);
  waits = waits;
}

pub waits_later : (sessions : List Receiving) (receipts taken : List ℕ) (attempt : Option Attempt) (wait : Option Pause) (clock later : ℕ)
    → clock ≤ later → IsShard sessions receipts taken attempt wait clock
    → (pause : Pause) → wait ≡ Some pause → (pause.since ≤ later) × (pause.length ≤ 5000)
waits_later sessions receipts taken attempt wait clock later le shard pause is =
    let was : (pause.since ≤ clock) × (pause.length ≤ 5000) = shard.waits pause is in
    (omega (arith, le, was.0), was.1)

-- ---- one session has changed

pub shard_with : (sessions : List Receiving) (receipts taken receipts2 taken2 : List ℕ) (attempt attempt2 : Option Attempt) (wait : Option Pause) (clock later place : ℕ) (new : Receiving)
    → IsShard sessions receipts taken attempt wait clock → clock ≤ later → place < length sessions
    → length receipts2 ≡ length receipts
    → ((k : ℕ) → has taken k ≡ true → has taken2 k ≡ true)
    → ((k : ℕ) → has taken2 k ≡ true → (has taken k ≡ true) ⊎ (k ≡ place))
    → (is_some attempt2 ≡ false → taken2 ≡ [])
    → ((k : ℕ) → k ≢ place → time_of receipts2 k ≡ time_of receipts k)
    → IsKept new (has taken2 place) (time_of receipts2 place) later
    → IsShard (set sessions place new) receipts2 taken2 attempt2 wait later
shard_with sessions receipts taken receipts2 taken2 attempt attempt2 wait clock later place new shard le there sized grows only none stay kept = record {
  count = omega (arith, shard.count, length-set sessions place new);
  sized = omega (arith, sized, shard.sized, length-set sessions place new);
  kept = λ k d lt. elim (cases_eq k place) [
    | inl same ↦ subst (λ p. IsKept (get_or (set sessions place new) p d) (has taken2 p) (time_of receipts2 p) later) (sym same)
        (subst (λ s. IsKept s (has taken2 place) (time_of receipts2 place) later) (sym (get_or-set_same sessions place new d there)) kept)
    | inr apart ↦
        let within : k < length sessions = omega (arith, lt, length-set sessions place new) in
        let was : IsKept (get_or sessions k d) (has taken k) (time_of receipts k) later = kept_later (get_or sessions k d) (has taken k) (time_of receipts k) clock later le (shard.kept k d within) in
        let more : IsKept (get_or sessions k d) (has taken2 k) (time_of receipts k) later = kept_more (get_or sessions k d) (has taken k) (has taken2 k) (time_of receipts k) later (grows k) was in
        let one : IsKept (get_or (set sessions place new) k d) (has taken2 k) (time_of receipts k) later = subst (λ s. IsKept s (has taken2 k) (time_of receipts k) later) (sym (get_or-set_other sessions place k new d apart)) more in
        subst (λ t. IsKept (get_or (set sessions place new) k d) (has taken2 k) t later) (sym (stay k apart)) one
  ];
  places = λ k waits. elim (only k waits) [
    | inl was ↦ omega (arith, shard.places k was, length-set sessions place new)
    | inr same ↦ omega (arith, same, there, length-set sessions place new)
  ];
  none_taken = none;
  waits = waits_later sessions receipts taken attempt wait clock later le shard;
}

-- ---- one session more

pub time_of-add : (l : List ℕ) (k : ℕ) → time_of (l ++ never ∷ []) k ≡ time_of l k
time_of-add [] zero = refl
time_of-add [] (suc k) = refl
time_of-add (x ∷ l) zero = refl
time_of-add (x ∷ l) (suc k) = time_of-add l k

time_of-past : (l : List ℕ) (k : ℕ) → length l ≤ k → time_of l k ≡ never
time_of-past [] k le = refl
time_of-past (x ∷ l) zero le = absurd (omega (arith, le))
time_of-past (x ∷ l) (suc k) le = time_of-past l k (omega (arith, le))

new_kept : (row : Row) (listed : Bool) (clock : ℕ) → IsKept (engine.has_row row clock) listed never clock
new_kept row listed clock = record {
  since = omega arith;
  short = omega arith;
  listed = λ is. absurd (false≢true is);
  demanded = λ is. refl;
  time = λ is. refl;
}

pub shard_add : (sessions : List Receiving) (receipts taken : List ℕ) (attempt : Option Attempt) (wait : Option Pause) (clock : ℕ) (row : Row)
    → IsShard sessions receipts taken attempt wait clock → length sessions < 2 ^ 32 - 1
    → IsShard (sessions ++ engine.has_row row clock ∷ []) (receipts ++ never ∷ []) taken attempt wait clock
shard_add sessions receipts taken attempt wait clock row shard few =
    let new : Receiving = engine.has_row row clock in
    let longer : length (sessions ++ new ∷ []) ≡ length sessions + 1 = omega (arith, length-append sessions (new ∷ [])) in
    let times_longer : length (receipts ++ never ∷ []) ≡ length receipts + 1 = omega (arith, length-append receipts (never ∷ [])) in
    record {
      count = omega (arith, few, longer);
      sized = omega (arith, longer, times_longer, shard.sized);
      kept = λ k d lt. elim (cases_lt k (length sessions)) [
        | inl within ↦
            subst (λ t. IsKept (get_or (sessions ++ new ∷ []) k d) (has taken k) t clock) (sym (time_of-add receipts k))
            (subst (λ s. IsKept s (has taken k) (time_of receipts k) clock) (sym (get_or-append sessions (new ∷ []) d k within)) (shard.kept k d within))
        | inr past ↦
            let last : get_or (sessions ++ new ∷ []) k d ≡ new = get_or_push sessions new d k (omega (arith, lt, longer, past)) in
            let at : time_of (receipts ++ never ∷ []) k ≡ never = time_of-add receipts k ∙ time_of-past receipts k (omega (arith, past, shard.sized)) in
            subst (λ t. IsKept (get_or (sessions ++ new ∷ []) k d) (has taken k) t clock) (sym at)
            (subst (λ s. IsKept s (has taken k) never clock) (sym last) (new_kept row (has taken k) clock))
      ];
      places = λ k waits. omega (arith, shard.places k waits, longer);
      none_taken = shard.none_taken;
      waits = shard.waits;
    }

-- ---- what becomes of one session

-- a frame of it is taken
pub took_kept : (old : Receiving) (frame : List ℕ) (seen : Seen) (was listed : Bool) (before time clock : ℕ)
    → IsKept old was before clock → listed ≡ true → IsKept (engine.took old frame seen) listed time clock
took_kept old frame seen was listed before time clock kept is = record {
  since = kept.since;
  short = kept.short;
  listed = λ busy. is;
  demanded = λ shut. absurd (true≢false shut);
  time = λ shut. absurd (true≢false shut);
}

-- its receipt leaves
pub answered_kept : (old : Receiving) (listed : Bool) (before time clock : ℕ)
    → IsKept old listed before clock → old.is_open ≡ false → time ≡ receipt_time (engine.answered old clock)
    → IsKept (engine.answered old clock) listed time clock
answered_kept old listed before time clock kept shut at = record {
  since = omega arith;
  short = omega arith;
  listed = kept.listed;
  demanded = kept.demanded;
  time = λ is. at;
}

-- it owes one again
pub owes_kept : (old : Receiving) (asks : Asks) (listed : Bool) (before time clock : ℕ)
    → IsKept old listed before clock → time ≡ receipt_time (owes_again old asks) → IsKept (owes_again old asks) listed time clock
owes_kept old asks listed before time clock kept at = record {
  since = kept.since;
  short = kept.short;
  listed = kept.listed;
  demanded = kept.demanded;
  time = λ is. at;
}

-- the transaction is settled

pub settled_shut : (is_stored : Bool) (it : Receiving) → it.is_open ≡ false → settled is_stored it ≡ it
settled_shut is_stored it shut = ap (λ b. if b then (if is_stored then engine.stored it else engine.dropped it) else it) shut

pub settled_open : (is_stored : Bool) (it : Receiving) → it.is_open ≡ true → settled is_stored it ≡ (if is_stored then engine.stored it else engine.dropped it)
settled_open is_stored it is = ap (λ b. if b then (if is_stored then engine.stored it else engine.dropped it) else it) is

bool_cases : (b : Bool) → (b ≡ true) ⊎ (b ≡ false)
bool_cases true = inl refl
bool_cases false = inr refl

part_shut : (is_stored : Bool) (it : Receiving) → (if is_stored then engine.stored it else engine.dropped it).is_open ≡ false
part_shut true it = refl
part_shut false it = refl

pub is_shut : (is_stored : Bool) (it : Receiving) → (settled is_stored it).is_open ≡ false
is_shut is_stored it = elim (bool_cases it.is_open) [
  | inl is ↦ ap (λ s. s.is_open) (settled_open is_stored it is) ∙ part_shut is_stored it
  | inr shut ↦ ap (λ s. s.is_open) (settled_shut is_stored it shut) ∙ shut
]

pub settled_again : (is_stored : Bool) (it : Receiving) → settled is_stored (settled is_stored it) ≡ settled is_stored it
settled_again is_stored it = settled_shut is_stored (settled is_stored it) (is_shut is_stored it)

part_kept : (is_stored : Bool) (it : Receiving) (was listed : Bool) (before time clock : ℕ) → IsKept it was before clock
    → time ≡ receipt_time (if is_stored then engine.stored it else engine.dropped it)
    → IsKept (if is_stored then engine.stored it else engine.dropped it) listed time clock
part_kept true it was listed before time clock kept at = record {
  since = kept.since;
  short = kept.short;
  listed = λ is. absurd (false≢true is);
  demanded = λ is. refl;
  time = λ is. at;
}
part_kept false it was listed before time clock kept at = record {
  since = kept.since;
  short = kept.short;
  listed = λ is. absurd (false≢true is);
  demanded = λ is. refl;
  time = λ is. at;
}

pub settled_kept : (is_stored : Bool) (old new : Receiving) (was : Bool) (before time clock : ℕ) → IsKept old was before clock
    → new ≡ settled is_stored old
    → (time ≡ receipt_time new) ⊎ ((old.is_open ≡ false) × (time ≡ before))
    → IsKept new false time clock
settled_kept is_stored old new was before time clock kept is at = elim (bool_cases old.is_open) [
  | inl busy ↦
      let whole : new ≡ (if is_stored then engine.stored old else engine.dropped old) = is ∙ settled_open is_stored old busy in
      let its : time ≡ receipt_time new = elim at [ inl now ↦ now | inr shut ↦ absurd (true≢false (sym busy ∙ shut.0)) ] in
      subst (λ s. IsKept s false time clock) (sym whole)
      (part_kept is_stored old was false before time clock kept (subst (λ s. time ≡ receipt_time s) whole its))
  | inr shut ↦
      let same : new ≡ old = is ∙ settled_shut is_stored old shut in
      let its : time ≡ receipt_time old = elim at [ inl now ↦ subst (λ s. time ≡ receipt_time s) same now | inr stays ↦ stays.1 ∙ kept.time shut ] in
      subst (λ s. IsKept s false time clock) (sym same) (record {
        since = kept.since;
        short = kept.short;
        listed = λ busy. absurd (false≢true (sym shut ∙ busy));
        demanded = kept.demanded;
        time = λ is_shut. its;
      })
]

-- ---- all that the transaction has are settled

-- as far as a loop has come
pub record Settling (is_stored : Bool) (old new : List Receiving) (before receipts taken : List ℕ) : Type 0 where
  pub sized : length new ≡ length old
  pub times : length receipts ≡ length before
  pub same : length before ≡ length old
  pub places : (k : ℕ) → has taken k ≡ true → k < length old
  pub each : (k : ℕ) (d : Receiving) → k < length old
      → ((get_or new k d ≡ get_or old k d) × (time_of receipts k ≡ time_of before k) × ((get_or old k d).is_open ≡ true → has taken k ≡ true))
      ⊎ ((get_or new k d ≡ settled is_stored (get_or old k d)) × (time_of receipts k ≡ receipt_time (get_or new k d)))

pub settling_step : (is_stored : Bool) (old new new2 : List Receiving) (before receipts receipts2 taken : List ℕ) (place : ℕ)
    → Settling is_stored old new before receipts (taken ++ place ∷ [])
    → length new2 ≡ length new → length receipts2 ≡ length receipts
    → ((d : Receiving) → get_or new2 place d ≡ settled is_stored (get_or new place d))
    → ((d : Receiving) → time_of receipts2 place ≡ receipt_time (get_or new2 place d))
    → ((k : ℕ) (d : Receiving) → k ≢ place → get_or new2 k d ≡ get_or new k d)
    → ((k : ℕ) → k ≢ place → time_of receipts2 k ≡ time_of receipts k)
    → Settling is_stored old new2 before receipts2 taken
settling_step is_stored old new new2 before receipts receipts2 taken place so sized timed its at others stay = record {
  sized = sized ∙ so.sized;
  times = timed ∙ so.times;
  same = so.same;
  places = λ k waits. so.places k (has_more taken place k waits);
  each = λ k d lt. elim (cases_eq k place) [
    | inl same ↦
        let was : (get_or new place d ≡ get_or old place d) ⊎ (get_or new place d ≡ settled is_stored (get_or old place d)) =
        elim (so.each place d (so.places place (has_last taken place))) [ inl pending ↦ inl pending.0 | inr done ↦ inr done.0 ] in
        let is : get_or new2 place d ≡ settled is_stored (get_or old place d) = its d ∙ elim was [
          | inl first ↦ ap (λ s. settled is_stored s) first
          | inr again ↦ ap (λ s. settled is_stored s) again ∙ settled_again is_stored (get_or old place d)
        ] in
        inr (
          subst (λ p. get_or new2 p d ≡ settled is_stored (get_or old p d)) (sym same) is,
          subst (λ p. time_of receipts2 p ≡ receipt_time (get_or new2 p d)) (sym same) (at d),
        )
    | inr apart ↦ elim (so.each k d lt) [
      | inl pending ↦ inl (others k d apart ∙ pending.0, stay k apart ∙ pending.1, λ busy. has_less taken place k apart (pending.2 busy))
      | inr done ↦ inr (others k d apart ∙ done.0, stay k apart ∙ done.1 ∙ ap (λ s. receipt_time s) (sym (others k d apart)))
    ]
  ];
}

-- at the end of the loop
pub settling_end : (is_stored : Bool) (old new : List Receiving) (before receipts : List ℕ) → Settling is_stored old new before receipts []
    → (k : ℕ) (d : Receiving) → k < length old
    → (get_or new k d ≡ settled is_stored (get_or old k d))
    × ((time_of receipts k ≡ receipt_time (get_or new k d)) ⊎ (((get_or old k d).is_open ≡ false) × (time_of receipts k ≡ time_of before k)))
settling_end is_stored old new before receipts so k d lt = elim (so.each k d lt) [
  | inl pending ↦
      let shut : (get_or old k d).is_open ≡ false = elim (bool_cases (get_or old k d).is_open) [
        | inl busy ↦ absurd (false≢true (pending.2 busy))
        | inr is ↦ is
      ] in
      (pending.0 ∙ sym (settled_shut is_stored (get_or old k d) shut), inr (shut, pending.1))
  | inr done ↦ (done.0, inl done.1)
]

-- a shard of which all are settled
pub shard_settled : (is_stored : Bool) (sessions new : List Receiving) (receipts receipts2 taken : List ℕ) (attempt attempt2 : Option Attempt) (wait wait2 : Option Pause) (clock : ℕ)
    → IsShard sessions receipts taken attempt wait clock
    → length new ≡ length sessions → length receipts2 ≡ length receipts
    → ((k : ℕ) (d : Receiving) → k < length sessions → get_or new k d ≡ settled is_stored (get_or sessions k d))
    → ((k : ℕ) (d : Receiving) → k < length sessions → (time_of receipts2 k ≡ receipt_time (get_or new k d)) ⊎ (((get_or sessions k d).is_open ≡ false) × (time_of receipts2 k ≡ time_of receipts k)))
    → ((pause : Pause) → wait2 ≡ Some pause → (pause.since ≤ clock) × (pause.length ≤ 5000))
    → IsShard new receipts2 [] attempt2 wait2 clock
shard_settled is_stored sessions new receipts receipts2 taken attempt attempt2 wait wait2 clock shard sized timed each times waits = record {
  count = omega (arith, shard.count, sized);
  sized = omega (arith, timed, sized, shard.sized);
  kept = λ k d lt.
      let within : k < length sessions = omega (arith, lt, sized) in
      settled_kept is_stored (get_or sessions k d) (get_or new k d) (has taken k) (time_of receipts k) (time_of receipts2 k) clock (shard.kept k d within) (each k d within) (times k d within);
  places = λ k none. absurd (false≢true none);
  none_taken = λ none. refl;
  waits = waits;
}

-- ---- what is claimed

pub all_shut : (sessions : List Receiving) (receipts taken : List ℕ) (attempt : Option Attempt) (wait : Option Pause) (clock : ℕ)
    → IsShard sessions receipts taken attempt wait clock → is_some attempt ≡ false
    → (k : ℕ) (d : Receiving) → k < length sessions → (get_or sessions k d).is_open ≡ false
all_shut sessions receipts taken attempt wait clock shard idle k d lt = elim (bool_cases (get_or sessions k d).is_open) [
  | inl busy ↦
      let listed : has taken k ≡ true = (shard.kept k d lt).listed busy in
      absurd (false≢true (subst (λ l. has l k ≡ true) (shard.none_taken idle) listed))
  | inr shut ↦ shut
]

owed_time : (it : Receiving) (clock : ℕ) → it.paid.since ≤ clock → it.paid.length ≤ 200 → is_some it.owed ≡ true → receipt_time it ≤ clock + 200
owed_time it clock since short owed =
    let is : receipt_time it ≡ min (it.paid.since + it.paid.length) never = ap (λ b. if b then min (it.paid.since + it.paid.length) never else never) owed in
    omega (arith, is, since, short)

pub owed_soon : (it : Receiving) (listed : Bool) (time clock : ℕ) → IsKept it listed time clock → it.is_open ≡ false → is_some it.owed ≡ true → time ≤ clock + 200
owed_soon it listed time clock kept shut owed = omega (arith, kept.time shut, owed_time it clock kept.since kept.short owed)

-- a session whose time has come has a receipt that is due
pub not_due : (it : Receiving) (listed : Bool) (time clock : ℕ) → IsKept it listed time clock → it.is_open ≡ false → time ≤ clock → clock < never
    → (it.is_open ≡ true) ⊎ (is_over it.paid clock ≡ false) ⊎ (it.owed ≡ None) → ⊥
not_due it listed time clock kept shut come le none = elim none [
  | inl busy ↦ true≢false (sym busy ∙ shut)
  | inr rest ↦ elim (bool_cases (is_some it.owed)) [
    | inl owed ↦ elim rest [
      | inl early ↦
          let is : receipt_time it ≡ min (it.paid.since + it.paid.length) never = ap (λ b. if b then min (it.paid.since + it.paid.length) never else never) owed in
          let over : it.paid.since + it.paid.length ≤ clock = omega (arith, is, kept.time shut, come, le) in
          true≢false (sym (le-leb (it.paid.since + it.paid.length) clock over) ∙ early)
      | inr nothing ↦ true≢false (sym owed ∙ ap (λ o. is_some o) nothing)
    ]
    | inr owes_none ↦
        let is : receipt_time it ≡ never = ap (λ b. if b then min (it.paid.since + it.paid.length) never else never) owes_none in
        omega (arith, is, kept.time shut, come, le)
  ]
]

-- ---- a frame is taken

pub is_last : (taken : List ℕ) (place k : ℕ) → has (taken ++ place ∷ []) k ≡ true → (has taken k ≡ true) ⊎ (k ≡ place)
is_last taken place k is = elim (cases_eq k place) [ inl same ↦ inr same | inr apart ↦ inl (has_less taken place k apart is) ]

some_last : (attempt : Option Attempt) (offset : ℕ) → is_some attempt ≡ true → is_some (with_last attempt offset) ≡ true
some_last None offset is = is
some_last (Some attempt) offset is = refl

pub take_shard : (sessions : List Receiving) (receipts taken : List ℕ) (attempt : Option Attempt) (wait : Option Pause) (clock place offset : ℕ) (old : Receiving) (frame : List ℕ) (seen : Seen)
    → IsShard sessions receipts taken attempt wait clock → place < length sessions → old ≡ get_or sessions place old → is_some attempt ≡ true
    → IsShard (set sessions place (engine.took old frame seen)) receipts (taken_with taken place old.is_open) (with_last attempt offset) wait clock
take_shard sessions receipts taken attempt wait clock place offset old frame seen shard there is begun =
    let was : IsKept old (has taken place) (time_of receipts place) clock =
    subst (λ s. IsKept s (has taken place) (time_of receipts place) clock) (sym is) (shard.kept place old there) in
    let none : (l : List ℕ) → is_some (with_last attempt offset) ≡ false → l ≡ [] = λ l ends. absurd (true≢false (sym (some_last attempt offset begun) ∙ ends)) in
    elim (bool_cases old.is_open) [
      | inl busy ↦
          subst (λ (l : List ℕ). IsShard (set sessions place (engine.took old frame seen)) receipts l (with_last attempt offset) wait clock) (sym (ap (λ b. taken_with taken place b) busy))
          (shard_with sessions receipts taken receipts taken attempt (with_last attempt offset) wait clock clock place (engine.took old frame seen)
          shard (omega arith) there refl (λ k k_is. k_is) (λ k k_is. inl k_is) (none taken) (λ k apart. refl)
          (took_kept old frame seen (has taken place) (has taken place) (time_of receipts place) (time_of receipts place) clock was (was.listed busy)))
      | inr shut ↦
          subst (λ (l : List ℕ). IsShard (set sessions place (engine.took old frame seen)) receipts l (with_last attempt offset) wait clock) (sym (ap (λ b. taken_with taken place b) shut))
          (shard_with sessions receipts taken receipts (taken ++ place ∷ []) attempt (with_last attempt offset) wait clock clock place (engine.took old frame seen)
          shard (omega arith) there refl (λ k k_is. has_more taken place k k_is) (λ k k_is. is_last taken place k k_is) (none (taken ++ place ∷ [])) (λ k apart. refl)
          (took_kept old frame seen (has taken place) (has (taken ++ place ∷ []) place) (time_of receipts place) (time_of receipts place) clock was (has_last taken place)))
    ]
