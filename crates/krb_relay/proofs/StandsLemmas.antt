-- What the calling thread's ends and receivers stand at, turn by turn.
use Rattle.std.proofs.Common.{◌≡◌, ℕ, zero, suc, ◌+◌, ◌<◌, ◌≤◌, true, false, List, [], ◌∷◌, length, map, set, get_or, replicate, Some, None, refl, sym, ap, subst, ◌∙◌, arith}
use Rattle.std.specs.Prelude.{All}
use Rattle.std.specs.List.{AllZip}
use Rattle.std.proofs.lemmas.List.{length-set, length-map, length-replicate, get_or-replicate}
use Rattle.std.proofs.lemmas.List.Elements.{All-nil}
use Rattle.krb_base.specs.Limits.{lane_limit}
use Rattle.krb_lane.specs.Side.{Side}
use Rattle.krb_peers.specs.declared.receiver.Receiving.{Receiving}
use Rattle.krb_peers.specs.Log.{has_ended}
use Rattle.krb_peers.specs.Log.{new_log}
use Rattle.krb_peers.specs.LogState.{LogState}
use Rattle.krb_peers.specs.Logged.{IsShut, HasLogged}
use Rattle.krb_peers.proofs.LoggedLemmas.{logged_none, logged_shut}
use Rattle.krb_relay.specs.declared.fault.OwnFault.{OwnFault}
use Rattle.krb_relay.specs.Gathering.{lane_of, IsEnded, IsFresh, NotesAll, NotesTaken, Finished}
use Rattle.krb_relay.specs.Heard.{Heard, heard, answers, AreAnswers, rounds_heard, all_heard}
use Rattle.krb_relay.specs.Serving.{Post, post, posts, IsTied, AreTied, IsLevel, InRound, Stands, Turns, Drains, Stops}
use Rattle.krb_relay.proofs.HeardLemmas.{rounds_none, none_answered, begins_selves}
use Rattle.krb_relay.proofs.EndsLemmas.{posts_length, posts_at, posts_set, posts_heard, posts_answered, all_drains_self, all_drains_set, all_drains_more, drained_begins, drained_same, drained_taken}
use Rattle.krb_relay.proofs.ServingLemmas.{turn_step, round_over}

module _ (lane : ℕ) (starts : List Receiving) (ends : List Side) (receivings : List Receiving) (log : LogState) (h : Stands lane starts ends receivings log) where
  count : length (posts starts ends receivings) ≡ length starts
  count = posts_length starts ends receivings h.each_end h.each_receiver

  pub lanes_are : log.lanes ≡ length starts
  lanes_are = h.stands.lanes ∙ count

  pub few_receivers : length receivings ≤ lane_limit
  few_receivers = let c = count in let f = h.stands.few in let r = h.each_receiver in omega (arith, c, f, r)

  -- the log, in rounds
  pub all_logged : log.entries ≡ rounds_heard (all_heard starts ends)
  all_logged = h.stands.logged ∙ ap rounds_heard (posts_heard starts ends receivings h.each_end h.each_receiver)

  pub all_answered : All AreAnswers (all_heard starts ends)
  all_answered =
      let P : List Heard → Type 0 = λ x. All AreAnswers x in
      subst P (posts_heard starts ends receivings h.each_end h.each_receiver)
      (posts_answered (posts starts ends receivings) (λ k none lt. (h.stands.tied k none lt).logged.judged))

  -- the Ends that the log notes were taken
  pub notes_taken : NotesTaken log ends
  notes_taken k below is =
      let lt : k < length starts = let l = lanes_are in omega (arith, l, below) in
      let in-posts : k < length (posts starts ends receivings) = let c = count in omega (arith, c, lt) in
      record { there = (let e = h.each_end in omega (arith, e, lt)); ended = λ none. taken_at none lt in-posts (posts starts ends receivings) refl }
    where
      taken_at : (none : Side) → k < length starts → k < length (posts starts ends receivings) → (ps : List Post) → ps ≡ posts starts ends receivings → (get_or ends k none).ended ≡ true
      taken_at none lt in-posts [] same = absurd (let e = ap length same in omega (arith, e, in-posts))
      taken_at none lt in-posts (p ∷ ps) same =
          let t = h.stands.tied k p in-posts in
          let post_is : get_or (posts starts ends receivings) k p ≡ post (get_or starts k p.start) (get_or ends k none) (get_or receivings k p.receiving) =
          posts_at starts ends receivings k p.start none p.receiving p h.each_end h.each_receiver lt in
          ap (λ (q : Post). q.rx.ended) (sym post_is) ∙ (sym t.ended ∙ is)

  -- any lane
  pub moments_of : (k : ℕ) (x : Side) (r : Receiving) → k < length starts → 0 < length (get_or receivings k r).nows.items
  moments_of k x r lt =
      let none : Post = post r x r in
      let P : Post → Type 0 = λ p. IsTied log k p in
      let t : P (post (get_or starts k r) (get_or ends k x) (get_or receivings k r)) =
      subst P (posts_at starts ends receivings k r x r none h.each_end h.each_receiver lt) (h.stands.tied k none (let c = count in omega (arith, c, lt))) in
      rw t.nows t.moments

  -- a lane whose turn it is
  module _ (there : lane < length ends) where
    within : lane < length starts
    within = let e = h.each_end in omega (arith, there, e)

    tied_here : (s : Receiving) (x : Side) (r : Receiving) → IsTied log lane (post (get_or starts lane s) (get_or ends lane x) (get_or receivings lane r))
    tied_here s x r =
        let none : Post = post s x r in
        let P : Post → Type 0 = λ p. IsTied log lane p in
        subst P (posts_at starts ends receivings lane s x r none h.each_end h.each_receiver within) (h.stands.tied lane none (let c = count in let w = within in omega (arith, c, w)))

    pub lane_below : lane < log.lanes
    lane_below = let e = lanes_are in let w = within in omega (arith, e, w)

    pub lane_small : lane < lane_limit
    lane_small = let c = count in let f = h.stands.few in let w = within in omega (arith, c, f, w)

    pub shut_here : (x : Side) (r : Receiving) → IsShut log lane (get_or receivings lane r).receiver
    shut_here x r =
        let t = tied_here r x r in
        let s : Receiving = get_or starts lane r in
        let e : Side = get_or ends lane x in
        logged_shut s.receiver s.nows.items lane e.frames log (get_or receivings lane r).receiver (answers (heard s e.frames)) t.logged

    pub moments_here : (x : Side) (r : Receiving) → 0 < length (get_or receivings lane r).nows.items
    moments_here x r = let t = tied_here r x r in rw t.nows t.moments

    pub turned : (x now : Side) (r receiving : Receiving) (log-now : LogState)
        → ((start : Receiving) → Turns lane (post start (get_or ends lane x) (get_or receivings lane r)) log (post start now receiving) log-now)
        → Stands (lane + 1) starts (set ends lane now) (set receivings lane receiving) log-now
    turned x now r receiving log-now turns =
        let s : Receiving = get_or starts lane r in
        let p : Post = post s (get_or ends lane x) (get_or receivings lane r) in
        let ps : List Post = posts starts ends receivings in
        let lt : lane < length ps = let c = count in let w = within in omega (arith, c, w) in
        let at : p ≡ get_or ps lane p = sym (posts_at starts ends receivings lane r x r p h.each_end h.each_receiver within) in
        let stepped : InRound (lane + 1) (set ps lane (post s now receiving)) log-now = turn_step lane ps p (post s now receiving) log log-now lt at (turns s) h.stands in
        let P : List Post → Type 0 = λ x. InRound (lane + 1) x log-now in
        record {
          each_end = length-set ends lane now ∙ h.each_end;
          each_receiver = length-set receivings lane receiving ∙ h.each_receiver;
          stands = subst P (sym (posts_set starts ends receivings lane r now receiving h.each_end h.each_receiver within)) stepped;
        }

    pub stopped : (x now : Side) (log-now : LogState) → Drains (get_or ends lane x) now → log-now ≡ log → Stops starts ends (set ends lane now) log-now
    stopped x now log-now drains same =
        record {
          mid = ends;
          judged = all_answered;
          logged = ap (λ (l : LogState). l.entries) same ∙ all_logged;
          lanes = ap (λ (l : LogState). l.lanes) same ∙ lanes_are;
          taken = λ k below is. notes_taken k (let l = ap (λ (l : LogState). l.lanes) same in omega (arith, l, below)) (ap (has_ended k) (sym same) ∙ is);
          same = refl;
          drained = all_drains_set ends ends lane x now there drains (all_drains_self ends);
        }

  -- after the last lane the next round begins
  pub next_round : length ends ≤ lane → Stands 0 starts ends receivings log
  next_round past = record {
    each_end = h.each_end;
    each_receiver = h.each_receiver;
    stands = round_over lane (posts starts ends receivings) log (let c = count in let e = h.each_end in omega (arith, c, e, past)) h.stands;
  }

  -- every lane has ended, and the log notes it
  pub all_noted : All IsEnded ends → NotesAll log (length starts)
  all_noted ended k lt =
      let at : k < length ends = let e = h.each_end in omega (arith, e, lt) in
      let in-posts : k < length (posts starts ends receivings) = let c = count in omega (arith, c, lt) in
      noted_at k lt at in-posts (posts starts ends receivings) refl
    where
      noted_at : (k : ℕ) → k < length starts → k < length ends → k < length (posts starts ends receivings) → (ps : List Post) → ps ≡ posts starts ends receivings → has_ended k log ≡ true
      noted_at k lt at in-posts [] is = absurd (let e = ap length is in omega (arith, e, in-posts))
      noted_at k lt at in-posts (p ∷ ps) is =
          let t = h.stands.tied k p in-posts in
          let same : get_or (posts starts ends receivings) k p ≡ post (get_or starts k p.start) (get_or ends k p.rx) (get_or receivings k p.receiving) =
          posts_at starts ends receivings k p.start p.rx p.receiving p h.each_end h.each_receiver lt in
          t.ended ∙ (ap (λ (q : Post). q.rx.ended) same ∙ ended k p.rx at)

-- ---- at first

none_ended : (n lane : ℕ) → get_or (replicate n false) lane false ≡ false
none_ended zero lane = refl
none_ended (suc n) zero = refl
none_ended (suc n) (suc lane) = none_ended n lane

fresh_ended : (lane : ℕ) → lane < lane_limit → get_or (replicate lane_limit false) lane false ≡ false
fresh_ended lane lt = get_or-replicate lane_limit lane false false lt

fresh_tied : (n lane : ℕ) (start : Receiving) (rx : Side) → lane < lane_limit → 0 < length start.nows.items → IsFresh rx → IsTied (new_log n) lane (post start rx start)
fresh_tied n lane start rx lt moments fresh =
    let P : List (List ℕ) → Type 0 = λ fs. HasLogged start.receiver start.nows.items lane fs (new_log n) start.receiver (answers (heard start fs)) in
    let none : P [] = logged_none start.receiver start.nows.items lane (new_log n) refl in
    record {
      logged = subst P (sym fresh.frames) none;
      nows = refl;
      moments = moments;
      room = let e : length (replicate lane_limit false) ≡ lane_limit = length-replicate lane_limit false in omega (arith, e, lt);
      ended = fresh_ended lane lt ∙ sym fresh.ended;
    }

fresh_level : (p : Post) → IsFresh p.rx → IsLevel 0 p
fresh_level p fresh = record { most = let e = ap length fresh.frames in omega (arith, e); least = λ live. omega arith }

-- fresh ends and an empty log are ready for the first round
pub fresh_stands : (starts : List Receiving) (ends : List Side) (log : LogState) → length ends ≡ length starts → length starts ≤ lane_limit
    → All (λ (r : Receiving). 0 < length r.nows.items) starts → All IsFresh ends → log ≡ new_log (length starts) → Stands 0 starts ends starts log
fresh_stands starts ends log each few moments fresh is =
    let ps : List Post = posts starts ends starts in
    let count : length ps ≡ length starts = posts_length starts ends starts each refl in
    let at : (k : ℕ) (p : Post) → k < length ps → get_or ps k p ≡ post (get_or starts k p.start) (get_or ends k p.rx) (get_or starts k p.start) =
    λ k p lt. posts_at starts ends starts k p.start p.rx p.start p each refl (omega (arith, count, lt)) in
    let tied : AreTied (new_log (length starts)) ps = λ k p lt.
    let P : Post → Type 0 = λ q. IsTied (new_log (length starts)) k q in
    subst P (sym (at k p lt))
    (fresh_tied (length starts) k (get_or starts k p.start) (get_or ends k p.rx) (omega (arith, count, lt, few)) (moments k p.start (omega (arith, count, lt))) (fresh k p.rx (omega (arith, count, lt, each)))) in
    let level : All (IsLevel 0) ps = λ k p lt.
    let P : Post → Type 0 = λ q. IsLevel 0 q in
    subst P (sym (at k p lt)) (fresh_level (post (get_or starts k p.start) (get_or ends k p.rx) (get_or starts k p.start)) (fresh k p.rx (omega (arith, count, lt, each)))) in
    let none : All (λ (rx : Side). rx.frames ≡ []) ends = λ k d lt. (fresh k d lt).frames in
    let Q : LogState → Type 0 = λ l. Stands 0 starts ends starts l in
    subst Q (sym is) (record {
      each_end = each;
      each_receiver = refl;
      stands = record {
        round = 0;
        served = All-nil (IsLevel (suc 0));
        waiting = level;
        tied = tied;
        logged = rounds_none starts ends none ∙ ap rounds_heard (sym (posts_heard starts ends starts each refl));
        lanes = sym count;
        few = omega (arith, count, few);
      };
    })

-- ---- at last

-- all lanes were served to their Ends
pub finished_well : (starts : List Receiving) (ends now : List Side) (log : LogState) → All AreAnswers (all_heard starts now) → log.entries ≡ rounds_heard (all_heard starts now)
    → All IsEnded now → NotesAll log (length starts) → log.lanes ≡ length starts → map lane_of now ≡ map lane_of ends → length ends ≡ length starts → Finished starts ends now log None
finished_well starts ends now log judged logged ended noted lanes same each = record {
  seen = all_heard starts now;
  judged = judged;
  logged = logged;
  begins = begins_selves (all_heard starts now);
  lanes = lanes;
  same = same;
  taken = λ k below is.
      let there : k < length now = let c = sym (length-map now lane_of) ∙ (ap length same ∙ length-map ends lane_of) in omega (arith, c, each, lanes, below) in
      record { there = there; ended = λ none. ended k none there };
  whole = λ none. (refl, ended, noted);
}

-- the thread had a fault, and the lanes were drained
pub finished_badly : (starts : List Receiving) (ends stopped now : List Side) (log : LogState) (fault : OwnFault) → Stops starts ends stopped log → AllZip Drains stopped now → Finished starts ends now log (Some fault)
finished_badly starts ends stopped now log fault stops drained =
    let all : AllZip Drains stops.mid now = all_drains_more stops.mid stopped now stops.drained drained in
    record {
      seen = all_heard starts stops.mid;
      judged = stops.judged;
      logged = stops.logged;
      begins = drained_begins starts stops.mid now all;
      lanes = stops.lanes;
      same = drained_same stops.mid now all ∙ stops.same;
      taken = drained_taken log stops.mid now all stops.taken;
      whole = λ none. absurd (let e : Some fault ≡ None = none in cc);
    }

-- not all lanes were made
pub finished_none : (starts : List Receiving) (ends now : List Side) (log : LogState) (fault : OwnFault) → log ≡ new_log (length starts) → All IsFresh ends → AllZip Drains ends now → Finished starts ends now log (Some fault)
finished_none starts ends now log fault is fresh drained =
    let none : All (λ (rx : Side). rx.frames ≡ []) ends = λ k d lt. (fresh k d lt).frames in
    let stops : Stops starts ends ends log = record {
      mid = ends;
      judged = none_answered starts ends none;
      logged = ap (λ (l : LogState). l.entries) is ∙ rounds_none starts ends none;
      lanes = ap (λ (l : LogState). l.lanes) is;
      taken = λ k below noted. absurd (let e : true ≡ false = sym noted ∙ (ap (has_ended k) is ∙ none_ended 8 k) in cc);
      same = refl;
      drained = all_drains_self ends;
    } in
    finished_badly starts ends ends now log fault stops drained
