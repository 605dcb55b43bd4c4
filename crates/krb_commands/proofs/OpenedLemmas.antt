-- What a log of one lane holds of the frames that its receiver took.
use Rattle.std.proofs.Common.{◌≡◌, ℕ, ◌+◌, ◌<◌, ◌≤◌, Bool, true, false, List, [], ◌∷◌, ◌++◌, length, map, take, get_or, Option, Result, refl, sym, ap, subst, ◌∙◌, arith, append-nil, length-take-le, inl, inr, Ok, Err, ◌⊎◌}
use Rattle.std.specs.Io.KnownBytes.{Appends}
use Rattle.std.proofs.KnownBytes.{Appends-trans}
use Rattle.std.specs.List.{concat}
use Rattle.std.specs.Result.{IsErrAnd}
use Rattle.krb_commands.specs.declared.fault.Fault.{Fault}
use Rattle.krb_commands.specs.declared.fault.Fault.TheVariants as fault
use Rattle.krb_commands.specs.Fault.{IsOfPrinting}
use Rattle.std.proofs.lemmas.List.{take_more, take_all, map-append, length-map}
use Rattle.krb_peers.specs.declared.log.Entry.{Entry}
use Rattle.krb_peers.specs.declared.log.Event.{Event}
use Rattle.krb_peers.specs.declared.log.Status.{Status}
use Rattle.krb_peers.specs.Log.{entries_for, events_of as events_in, has_closed, new_log, status_of, ended_at}
use Rattle.krb_peers.specs.LogState.{LogState}
use Rattle.krb_peers.specs.ReceiverState.{ReceiverState}
use Rattle.krb_peers.specs.Moments.{moment_at}
use Rattle.krb_peers.specs.Receiver.{verdict_by}
use Rattle.krb_peers.specs.Logged.{noted, IsShut}
use Rattle.krb_peers.specs.Verdicts.{Verdict, AreJudged, events_by, events_from}
use Rattle.krb_peers.specs.Logged.{HasLogged, LogsNext}
use Rattle.krb_peers.proofs.LoggedLemmas.{events_of-own, events_of-push, logged_none, logged_shut}
use Rattle.krb_commands.specs.JobLines.{entry_line, state_line, state_by, is_closed_state, status_by}
use Rattle.krb_commands.specs.Output.{AppendsPrefix, AppendsPart}
use Rattle.krb_commands.specs.Opened.{opened_lines, opened_text, PrintsFirst, PrintsOpened, PrintsOpenedPrefix, HoldsFrames, LogsFrames}
use Rattle.std.specs.Result.{is_err}
use Rattle.krb_commands.proofs.OutputLemmas.{AppendsPrefix-after, AppendsPrefix-whole, prefix_by_part}
use Rattle.krb_commands.proofs.ShowLemmas.{of_ok}

abbrev log_of : List Event → LogState
log_of events = record (new_log 1) { entries = entries_for 0 events }

-- what a receiver and a log have come to after the first frames
pub record HasOpened (start : ReceiverState) (nows : List ℕ) (frames : List (List ℕ)) (receiver : ReceiverState) (log : LogState) : Type 0 where
  pub holds : HoldsFrames start nows frames log
  pub logged : HasLogged start nows 0 frames log receiver holds.verdicts

pub opened_none : (start : ReceiverState) (nows : List ℕ) (log : LogState) → log ≡ new_log 1 → HasOpened start nows [] start log
opened_none start nows log is =
    let first : HasLogged start nows 0 [] log start [] = logged_none start nows 0 log (ap (λ (l : LogState). events_in 0 l.entries) is) in
    record { holds = record { verdicts = []; opened = first.judged; entries = is }; logged = first }

pub opened_shut : (start : ReceiverState) (nows : List ℕ) (frames : List (List ℕ)) (receiver : ReceiverState) (log : LogState) → HasOpened start nows frames receiver log → IsShut log 0 receiver
opened_shut start nows frames receiver log h = logged_shut start nows 0 frames log receiver h.holds.verdicts h.logged

noted_more : (vs : List Verdict) (v : Verdict) (log log-now : LogState) → log ≡ log_of (events_from vs) → log-now ≡ noted log 0 v → log-now ≡ log_of (events_from (vs ++ v ∷ []))
noted_more vs v log log-now is now_is =
    now_is ∙ ap (λ l. noted l 0 v) is
    ∙ ap (λ e. let z : LogState = record (new_log 1) { entries = e } in z) (sym (map-append (λ event. let z : Entry = record { lane = 0; event = event } in z) (events_from vs) (events_by v)))
    ∙ ap log_of (sym (events_of-push vs v))

-- the next of the frames
pub opened_next : (start : ReceiverState) (nows : List ℕ) (frames : List (List ℕ)) (place : ℕ) (receiver : ReceiverState) (log : LogState) → HasOpened start nows (take place frames) receiver log
    → (frame : List ℕ) (now : ℕ) (receiver-now : ReceiverState) (log-now : LogState) → place < length frames → frame ≡ get_or frames place frame → now ≡ moment_at nows place
    → LogsNext receiver log 0 now frame receiver-now log-now → log-now ≡ noted log 0 (verdict_by receiver now frame)
    → HasOpened start nows (take (place + 1) frames) receiver-now log-now
opened_next start nows frames place receiver log h frame now receiver-now log-now lt is at next l =
    let vs = h.holds.verdicts in
    let count : place ≡ length (take place frames) = sym (length-take-le place frames (omega arith)) in
    let more = next.goes_on start nows (take place frames) vs h.logged (at ∙ ap (moment_at nows) count) in
    let now_has : HasOpened start nows (take place frames ++ frame ∷ []) receiver-now log-now = record {
      holds = record { verdicts = vs ++ verdict_by receiver now frame ∷ []; opened = more.judged; entries = noted_more vs (verdict_by receiver now frame) log log-now h.holds.entries l };
      logged = more;
    } in
    let P : List (List ℕ) → Type 0 = λ l. HasOpened start nows l receiver-now log-now in
    subst P (ap (λ f. take place frames ++ f ∷ []) is ∙ sym (take_more frames place frame lt)) now_has

-- ---- what is printed of it

lines_are : (vs : List Verdict) (log : LogState) → log ≡ log_of (events_from vs) → concat (map entry_line log.entries) ≡ opened_lines vs
lines_are vs log is = ap (λ l. concat (map entry_line l.entries)) is

-- a lane that has ended is closed where the close was accepted
closed_by : (b : Bool) → is_closed_state (state_by b) ≡ b
closed_by true = refl
closed_by false = refl

-- how the lane has come to its end
pub state_is : (vs : List Verdict) (log : LogState) → log ≡ log_of (events_from vs) → status_of (ended_at log 0) 0 ≡ state_by (has_closed (events_from vs))
state_is vs log is =
    ap (λ l. status_of (ended_at l 0) 0) is
    ∙ ap (λ e. state_by (has_closed e)) (events_of-own 0 (events_from vs))

module _ {A E : Type 0} (start : ReceiverState) (nows : List ℕ) (frames : List (List ℕ)) (outcome : Result A E) (log : LogState) (h : LogsFrames start nows frames outcome log) (old then now : Option (List ℕ)) where
  -- the entries so far, or a prefix of them
  pub prefix_of_entries : AppendsPrefix old now (concat (map entry_line log.entries)) → PrintsOpenedPrefix start nows frames old now
  prefix_of_entries p =
      let P : List ℕ → Type 0 = λ l. AppendsPrefix old now l in
      inr (h.0, h.1.verdicts, h.1.opened, subst P (lines_are h.1.verdicts log h.1.entries) p)

  pub entries_alone : Appends old now (concat (map entry_line log.entries)) → PrintsOpenedPrefix start nows frames old now
  entries_alone p = prefix_of_entries (AppendsPrefix-whole old now (concat (map entry_line log.entries)) p)

  -- one line for each event
  count_is : length log.entries ≡ length (events_from h.1.verdicts)
  count_is = ap (λ (l : LogState). length l.entries) h.1.entries ∙ length-map (events_from h.1.verdicts) _

  pub first_printed : (lines : ℕ) → lines ≡ length log.entries → Appends old now (concat (map entry_line log.entries)) → PrintsFirst start nows frames lines old now
  first_printed lines many p =
      let P : List ℕ → Type 0 = λ l. Appends old now l in
      (h.0, h.1.verdicts, h.1.opened, many ∙ count_is, subst P (lines_are h.1.verdicts log h.1.entries) p)

  -- by the fault of their printing
  abbrev pub HasFault : Fault → Type 0
  HasFault reported =
      ((reported ≡ fault.Stopped (length log.entries)) × Appends old now (concat (map entry_line log.entries)))
      ⊎ (IsOfPrinting reported × AppendsPart old now (concat (map entry_line log.entries)))

  pub prefix_by_fault : (reported : Fault) → HasFault reported → PrintsOpenedPrefix start nows frames old now
  prefix_by_fault reported (inl p) = entries_alone p.1
  prefix_by_fault reported (inr p) = prefix_of_entries (prefix_by_part old now (concat (map entry_line log.entries)) p.1)

  stopped_by : (reported : Fault) (lines : ℕ) → reported ≡ fault.Stopped lines → HasFault reported → PrintsFirst start nows frames lines old now
  stopped_by reported lines is (inl p) =
      let e : fault.Stopped lines ≡ fault.Stopped (length log.entries) = sym is ∙ p.0 in
      first_printed lines (let f = e in cc) p.1
  stopped_by reported lines is (inr p) = absurd (subst IsOfPrinting is p.0)

  pub first_by_fault : {X : Type 0} (out : Result X Fault) (reported : Fault) (lines : ℕ) → IsErrAnd out (λ x. x ≡ reported) → out ≡ Err (fault.Stopped lines) → HasFault reported → PrintsFirst start nows frames lines old now
  first_by_fault (Ok x) reported lines same named h = absurd same
  first_by_fault (Err x) reported lines same named h =
      let s = same in let n = named in
      stopped_by reported lines (cc) h

  module _ (ok : h.0 ≡ length frames) where
    all_opened : AreJudged start nows frames h.1.verdicts
    all_opened =
        let P : List (List ℕ) → Type 0 = λ l. AreJudged start nows l h.1.verdicts in
        let long : length frames ≤ h.0 = omega (arith, ok) in
        subst P (take_all h.0 frames long) h.1.opened

    entries_first : Appends old then (concat (map entry_line log.entries)) → Appends old then (opened_lines h.1.verdicts)
    entries_first p = let P : List ℕ → Type 0 = λ l. Appends old then l in subst P (lines_are h.1.verdicts log h.1.entries) p

    state_last : (status : Status) → status ≡ status_of (ended_at log 0) 0 → opened_lines h.1.verdicts ++ state_line 0 status ≡ opened_text h.1.verdicts
    state_last status is = ap (λ s. opened_lines h.1.verdicts ++ state_line 0 s) (is ∙ state_is h.1.verdicts log h.1.entries)

    -- and the state, or a prefix of it
    pub prefix_of_state : Appends old then (concat (map entry_line log.entries)) → (status : Status) → status ≡ status_of (ended_at log 0) 0
        → AppendsPrefix then now (state_line 0 status) → PrintsOpenedPrefix start nows frames old now
    prefix_of_state p status is q =
        inl (
          h.1.verdicts,
          all_opened,
          AppendsPrefix-after old then now (opened_lines h.1.verdicts) (state_line 0 status) (opened_text h.1.verdicts) (entries_first p) q
              [] (sym (append-nil (opened_lines h.1.verdicts ++ state_line 0 status) ∙ state_last status is)),
        )

    pub all_printed : Appends old then (concat (map entry_line log.entries)) → (status : Status) → status ≡ status_of (ended_at log 0) 0
        → Appends then now (state_line 0 status) → (code : ℕ) → code ≡ status_by (is_closed_state status) → PrintsOpened start nows frames old now code
    all_printed p status is q code code_is =
        let P : List ℕ → Type 0 = λ l. Appends old now l in (
          h.1.verdicts,
          all_opened,
          subst P (state_last status is) (Appends-trans old then now (opened_lines h.1.verdicts) (state_line 0 status) (entries_first p) q),
          code_is ∙ ap (λ s. status_by (is_closed_state s)) (is ∙ state_is h.1.verdicts log h.1.entries) ∙ ap status_by (closed_by (has_closed (events_from h.1.verdicts))),
        )

-- nothing failed
pub took_all : {A E : Type 0} (start : ReceiverState) (nows : List ℕ) (frames : List (List ℕ)) (outcome : Result A E) (log : LogState) (h : LogsFrames start nows frames outcome log)
    → is_err outcome ≡ false → h.0 ≡ length frames
took_all start nows frames outcome log h well = of_ok outcome (h.0 ≡ length frames) well h.2
