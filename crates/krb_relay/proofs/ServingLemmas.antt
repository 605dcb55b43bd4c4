-- How a round goes on.
use Rattle.std.proofs.Common.{◌≡◌, ◌≢◌, ℕ, ◌+◌, ◌<◌, ◌≤◌, true, false, suc, List, [], ◌∷◌, ◌++◌, length, map, take, drop, set, get_or, refl, sym, ap, ap₂, subst, ◌∙◌, inl, inr, arith}
use Rattle.std.specs.Prelude.{All}
use Rattle.std.proofs.lemmas.List.{length-append, length-map, map-append, set_split, take_more_set, take-append-drop, drop_more, drop-set-lt, length-take-le, take_all, length-set, get_or-set_same, get_or-set_other}
use Rattle.std.proofs.lemmas.List.Elements.{All-nil, All-cons, All-head, All-tail, All-append, All-weaker}
use Rattle.std.proofs.lemmas.Bool.Decides.{eqb_tells}
use Rattle.krb_lane.specs.Side.{Side}
use Rattle.krb_peers.specs.declared.log.Event.{Event}
use Rattle.krb_peers.specs.declared.receiver.Receiving.{Receiving}
use Rattle.krb_peers.specs.Log.{has_ended}
use Rattle.krb_peers.specs.Log.{ended_at, entries_for}
use Rattle.krb_peers.specs.LogState.{LogState}
use Rattle.krb_peers.specs.Logged.{HasLogged, entries_by}
use Rattle.krb_peers.specs.Order.{demand_after}
use Rattle.krb_peers.specs.Receiver.{verdict_by}
use Rattle.krb_peers.specs.ReceiverState.{ReceiverState}
use Rattle.krb_peers.specs.Rounds.{rounds, NoneLonger}
use Rattle.krb_peers.specs.Moments.{moment_at}
use Rattle.krb_peers.specs.Verdicts.{Verdict, events_by, groups_of, records_of, verdict}
use Rattle.krb_peers.proofs.RoundsLemmas.{rounds-push}
use Rattle.krb_relay.specs.Heard.{heard, answers, groups_in, rounds_heard}
use Rattle.krb_relay.specs.Serving.{Post, heard_at, IsTied, AreTied, IsLevel, InRound, closed, Rests, Ends, Judges, Turns, verdict_next}
use Rattle.krb_relay.proofs.HeardLemmas.{length-groups, answers-push}

-- ---- a frame was judged

-- the verdict is the next one of the list
next_is : (log : LogState) (lane : ℕ) (p : Post) (frame : List ℕ) → IsTied log lane p
    → answers (heard p.start (p.rx.frames ++ frame ∷ [])) ≡ answers (heard_at p) ++ verdict_next p frame ∷ []
unfolding verdict_by
next_is log lane p frame t =
    let first = p.start.receiver.demand in
    let vs = answers (heard_at p) in
    let nows : List ℕ = p.start.nows.items in
    let now : ℕ = moment_at nows (length p.rx.frames) in
    let P : ReceiverState → Type 0 = λ r. verdict p.start.receiver.opener (demand_after first (records_of vs)) now frame ≡ verdict r.opener r.demand now frame in
    let same : verdict p.start.receiver.opener (demand_after first (records_of vs)) now frame ≡ verdict p.receiving.receiver.opener p.receiving.receiver.demand now frame =
    subst P (sym t.logged.receiver_is) refl in
    let at : now ≡ moment_at p.receiving.nows.items (length p.rx.frames) = ap (λ n. moment_at n.items (length p.rx.frames)) (sym t.nows) in
    answers-push p.start p.rx.frames frame
    ∙ ap (λ v. vs ++ v ∷ []) (same ∙ ap (λ n. verdict p.receiving.receiver.opener p.receiving.receiver.demand n frame) at)

module _ (lane : ℕ) (p q : Post) (log log-now : LogState) (w : Judges lane p log q log-now) (t : IsTied log lane p) where
  heard_is : heard_at q ≡ heard p.start (p.rx.frames ++ w.frame ∷ [])
  heard_is = ap₂ (λ s (rx : Side). heard s rx.frames) w.start_is w.rx_is

  answers_are : answers (heard_at q) ≡ answers (heard_at p) ++ verdict_next p w.frame ∷ []
  answers_are = ap answers heard_is ∙ next_is log lane p w.frame t

  groups_are : groups_in (heard_at q) ≡ groups_in (heard_at p) ++ events_by (verdict_next p w.frame) ∷ []
  groups_are = ap groups_of answers_are ∙ map-append events_by (answers (heard_at p)) (verdict_next p w.frame ∷ [])

  judged_tied : IsTied log-now lane q
  judged_tied =
      let v = verdict_next p w.frame in
      let at : moment_at p.receiving.nows.items (length p.rx.frames) ≡ moment_at p.start.nows.items (length p.rx.frames) = ap (λ n. moment_at n.items (length p.rx.frames)) t.nows in
      let went : HasLogged p.start.receiver p.start.nows.items lane (p.rx.frames ++ w.frame ∷ []) log-now q.receiving.receiver (answers (heard_at p) ++ v ∷ []) =
      w.logs.goes_on p.start.receiver p.start.nows.items p.rx.frames (answers (heard_at p)) t.logged at in
      let P : List Verdict → Type 0 = λ vs. HasLogged p.start.receiver p.start.nows.items lane (p.rx.frames ++ w.frame ∷ []) log-now q.receiving.receiver vs in
      let Q : Receiving → Side → Type 0 = λ s rx. HasLogged s.receiver s.nows.items lane rx.frames log-now q.receiving.receiver (answers (heard_at q)) in
      let same : HasLogged p.start.receiver p.start.nows.items lane (p.rx.frames ++ w.frame ∷ []) log-now q.receiving.receiver (answers (heard_at q)) = subst P (sym answers_are) went in
      record {
        logged = subst (λ s. Q s q.rx) (sym w.start_is) (subst (λ rx. Q p.start rx) (sym w.rx_is) same);
        nows = w.nows_is ∙ (t.nows ∙ ap (λ (s : Receiving). s.nows) (sym w.start_is));
        moments = rw w.start_is t.moments;
        room = rw w.log_is t.room;
        ended = ap (has_ended lane) w.log_is ∙ (t.ended ∙ ap (λ (rx : Side). rx.ended) (sym w.rx_is));
      }

  judged_level : (round : ℕ) → IsLevel round p → IsLevel (suc round) q
  judged_level round level =
      let one : length q.rx.frames ≡ length p.rx.frames + 1 = ap (λ (rx : Side). length rx.frames) w.rx_is ∙ length-append p.rx.frames (w.frame ∷ []) in
      record { most = omega (arith, one, level.most); least = λ live. omega (arith, one, level.least w.live) }

  judged_others : (other : ℕ) (r : Post) → other ≢ lane → IsTied log other r → IsTied log-now other r
  judged_others other r apart o = record {
    logged = w.logs.others r.start.receiver r.start.nows.items other r.rx.frames r.receiving.receiver (answers (heard_at r)) apart o.logged;
    nows = o.nows;
    moments = o.moments;
    room = rw w.log_is o.room;
    ended = ap (has_ended other) w.log_is ∙ o.ended;
  }

-- ---- End was taken

module _ (lane : ℕ) (p q : Post) (log log-now : LogState) (w : Ends lane p log q log-now) where
  ended_tied : IsTied log lane p → IsTied log-now lane q
  ended_tied t =
      let P : Post → LogState → Type 0 = λ x l. IsTied l lane x in
      let l = t.logged in
      let there : P (record p { rx = closed p.rx }) (ended_at log lane) = record {
        logged = record { judged = l.judged; entries = l.entries; receiver_is = l.receiver_is };
        nows = t.nows;
        moments = t.moments;
        room = (let e = length-set log.ended lane true in let r = t.room in omega (arith, e, r));
        ended = get_or-set_same log.ended lane true false t.room;
      } in
      subst (λ x. P x log-now) (sym w.closes) (subst (λ l. P (record p { rx = closed p.rx }) l) (sym w.log_is) there)

  ended_others : (other : ℕ) (r : Post) → other ≢ lane → IsTied log other r → IsTied log-now other r
  ended_others other r apart o =
      let P : LogState → Type 0 = λ l. IsTied l other r in
      let l = o.logged in
      let there : P (ended_at log lane) = record {
        logged = record { judged = l.judged; entries = l.entries; receiver_is = l.receiver_is };
        nows = o.nows;
        moments = o.moments;
        room = (let e = length-set log.ended lane true in let r = o.room in omega (arith, e, r));
        ended = get_or-set_other log.ended lane other true false apart ∙ o.ended;
      } in
      subst P (sym w.log_is) there

  ended_level : (round : ℕ) → IsLevel round p → IsLevel (suc round) q
  ended_level round level =
      let P : Post → Type 0 = λ x. IsLevel (suc round) x in
      let there : P (record p { rx = closed p.rx }) = record { most = omega (arith, level.most); least = λ live. absurd (let e : true ≡ false = live in cc) } in
      subst P (sym w.closes) there

-- ---- one turn among the lanes

abbrev groups_at : Post → List (List Event)
groups_at p = groups_in (heard_at p)

map_twice : (ps : List Post) → map groups_in (map heard_at ps) ≡ map groups_at ps
map_twice [] = refl
map_twice (p ∷ ps) = ap (λ l. groups_at p ∷ l) (map_twice ps)

rounds_at : (front : List Post) (p : Post) (back : List Post) → rounds_heard (map heard_at (front ++ p ∷ back)) ≡ rounds (map groups_at front ++ groups_at p ∷ map groups_at back)
rounds_at front p back = ap rounds (map_twice (front ++ p ∷ back) ∙ map-append groups_at front (p ∷ back))

abbrev IsShort : ℕ → Post → Type 0
IsShort n p = length p.rx.frames ≤ n

none_longer : (n : ℕ) (ps : List Post) → All (IsShort n) ps → NoneLonger n (map groups_at ps)
none_longer n [] h = All-nil (λ groups. length groups ≤ n)
none_longer n (p ∷ ps) h =
    let short : length p.rx.frames ≤ n = All-head (IsShort n) p ps h in
    All-cons (λ groups. length groups ≤ n) (groups_at p) (map groups_at ps) (omega (arith, short, length-groups (heard_at p))) (none_longer n ps (All-tail (IsShort n) p ps h))

-- what one turn keeps
record Kept (lane round : ℕ) (front : List Post) (q : Post) (back : List Post) (log log-now : LogState) : Type 0 where
  level : IsLevel (suc round) q
  mine : IsTied log-now lane q
  others : (other : ℕ) (r : Post) → other ≢ lane → IsTied log other r → IsTied log-now other r
  logged : log-now.entries ≡ rounds_heard (map heard_at (front ++ q ∷ back))
  lanes : log-now.lanes ≡ log.lanes

module _ (lane round : ℕ) (front : List Post) (p : Post) (back : List Post) (log : LogState) (number : lane ≡ length front) (level : IsLevel round p)
    (before : All (IsShort (suc round)) front) (following : All (IsShort round) back) (t : IsTied log lane p) (logged : log.entries ≡ rounds_heard (map heard_at (front ++ p ∷ back))) where
  kept_judged : (q : Post) (log-now : LogState) → Judges lane p log q log-now → Kept lane round front q back log log-now
  kept_judged q log-now w =
      let v = verdict_next p w.frame in
      let gs = groups_at p in
      let least : round ≤ length p.rx.frames = level.least w.live in
      let most : length p.rx.frames ≤ round = level.most in
      let len : length gs ≡ round = length-groups (heard_at p) ∙ omega (arith, least, most) in
      let in-front : NoneLonger (suc (length gs)) (map groups_at front) = rw len (none_longer (suc round) front before) in
      let in-back : NoneLonger (length gs) (map groups_at back) = rw len (none_longer round back following) in
      let n : length (map groups_at front) ≡ lane = length-map front groups_at ∙ sym number in
      let was : log.entries ≡ rounds (map groups_at front ++ gs ∷ map groups_at back) = logged ∙ rounds_at front p back in
      let now : rounds (map groups_at front ++ (gs ++ events_by v ∷ []) ∷ map groups_at back) ≡ rounds (map groups_at front ++ gs ∷ map groups_at back) ++ entries_for lane (events_by v) =
      rounds-push (map groups_at front) gs (events_by v) (map groups_at back) in-front in-back ∙ ap (λ k. rounds (map groups_at front ++ gs ∷ map groups_at back) ++ entries_for k (events_by v)) n in
      record {
        level = judged_level lane p q log log-now w t round level;
        mine = judged_tied lane p q log log-now w t;
        others = judged_others lane p q log log-now w t;
        logged =
            ap (λ (l : LogState). l.entries) w.log_is
            ∙ (ap (λ es. es ++ entries_by lane v) was
            ∙ (sym now
            ∙ (ap (λ g. rounds (map groups_at front ++ g ∷ map groups_at back)) (sym (groups_are lane p q log log-now w t)) ∙ sym (rounds_at front q back))));
        lanes = ap (λ (l : LogState). l.lanes) w.log_is;
      }

  kept_ended : (q : Post) (log-now : LogState) → Ends lane p log q log-now → Kept lane round front q back log log-now
  kept_ended q log-now w =
      let same : heard_at q ≡ heard_at p = ap heard_at w.closes in
      record {
        level = ended_level lane p q log log-now w round level;
        mine = ended_tied lane p q log log-now w t;
        others = ended_others lane p q log log-now w;
        logged =
            ap (λ (l : LogState). l.entries) w.log_is
            ∙ (logged ∙ (rounds_at front p back ∙ (ap (λ h. rounds (map groups_at front ++ groups_in h ∷ map groups_at back)) (sym same) ∙ sym (rounds_at front q back))));
        lanes = ap (λ (l : LogState). l.lanes) w.log_is;
      }

  kept_rests : (q : Post) (log-now : LogState) → Rests p log q log-now → Kept lane round front q back log log-now
  kept_rests q log-now w =
      let P : Post → LogState → Type 0 = λ x l. Kept lane round front x back log l in
      let there : P p log = record {
        level = record { most = omega (arith, level.most); least = λ live. absurd (let e : true ≡ false = sym w.ended ∙ live in cc) };
        mine = t;
        others = λ other r apart o. o;
        logged = logged;
        lanes = refl;
      } in
      subst (λ x. P x log-now) (sym w.same) (subst (λ l. P p l) (sym w.log_is) there)

  kept : (q : Post) (log-now : LogState) → Turns lane p log q log-now → Kept lane round front q back log log-now
  kept q log-now (inl w) = kept_rests q log-now w
  kept q log-now (inr (inl w)) = kept_ended q log-now w
  kept q log-now (inr (inr w)) = kept_judged q log-now w

-- a lane that was written, and one that wasn't
tied_at : (log-now : LogState) (ps : List Post) (lane : ℕ) (q : Post) → lane < length ps → IsTied log-now lane q
    → ((other : ℕ) (none : Post) → other ≢ lane → other < length ps → IsTied log-now other (get_or ps other none))
    → AreTied log-now (set ps lane q)
tied_at log-now ps lane q lt mine others other none within =
    let inside : other < length ps = let e = length-set ps lane q in omega (arith, e, within) in
    elim (eqb_tells other lane) [
      | inl same ↦
          let P : ℕ → Type 0 = λ k. IsTied log-now k (get_or (set ps lane q) k none) in
          let Q : Post → Type 0 = λ x. IsTied log-now lane x in
          subst P (sym same.1) (subst Q (sym (get_or-set_same ps lane q none lt)) mine)
      | inr off ↦
          let Q : Post → Type 0 = λ x. IsTied log-now other x in
          subst Q (sym (get_or-set_other ps lane other q none off.1)) (others other none off.1 inside)
    ]

-- one turn in its round
pub turn_step : (lane : ℕ) (ps : List Post) (p q : Post) (log log-now : LogState) → lane < length ps → p ≡ get_or ps lane p → Turns lane p log q log-now
    → InRound lane ps log → InRound (lane + 1) (set ps lane q) log-now
turn_step lane ps p q log log-now lt at turn in_round =
    let round : ℕ = in_round.round in
    let F : List Post = take lane ps in
    let B : List Post = drop (lane + 1) ps in
    let one : lane + 1 ≡ suc lane = omega arith in
    let len : length F ≡ lane = length-take-le lane ps (omega arith) in
    let rest : drop lane ps ≡ p ∷ B = drop_more ps lane p lt ∙ ap (λ x. x ∷ B) (sym at) in
    let split : ps ≡ F ++ p ∷ B = sym (take-append-drop lane ps) ∙ ap (λ x. F ++ x) rest in
    let waiting : All (IsLevel round) (p ∷ B) = let P : List Post → Type 0 = λ x. All (IsLevel round) x in subst P rest in_round.waiting in
    let set_is : set ps lane q ≡ F ++ q ∷ B = set_split ps lane q lt ∙ ap (λ n. F ++ q ∷ drop n ps) (sym one) in
    let tied : IsTied log lane p = let P : Post → Type 0 = λ x. IsTied log lane x in subst P (sym at) (in_round.tied lane p lt) in
    let before : All (IsShort (suc round)) F = All-weaker (IsLevel (suc round)) (IsShort (suc round)) (λ x l. l.most) F in_round.served in
    let following : All (IsShort round) B = All-weaker (IsLevel round) (IsShort round) (λ x l. l.most) B (All-tail (IsLevel round) p B waiting) in
    let k = kept lane round F p B log (sym len) (All-head (IsLevel round) p B waiting) before following tied (in_round.logged ∙ ap (λ x. rounds_heard (map heard_at x)) split) q log-now turn in
    record {
      round = round;
      served = rw (take_more_set ps lane q lt) (All-append (IsLevel (suc round)) F (q ∷ []) in_round.served (All-cons (IsLevel (suc round)) q [] k.level (All-nil (IsLevel (suc round)))));
      waiting = rw (drop-set-lt (lane + 1) ps lane q (omega arith)) (All-tail (IsLevel round) p B waiting);
      tied = tied_at log-now ps lane q lt k.mine (λ other none apart within. k.others other (get_or ps other none) apart (in_round.tied other none within));
      logged = k.logged ∙ ap (λ x. rounds_heard (map heard_at x)) (sym set_is);
      lanes = k.lanes ∙ (in_round.lanes ∙ sym (length-set ps lane q));
      few = (let e = length-set ps lane q in let f = in_round.few in omega (arith, e, f));
    }

-- after the last lane the next round begins
pub round_over : (lane : ℕ) (ps : List Post) (log : LogState) → length ps ≤ lane → InRound lane ps log → InRound 0 ps log
round_over lane ps log le h =
    let all : All (IsLevel (suc h.round)) ps = let P : List Post → Type 0 = λ x. All (IsLevel (suc h.round)) x in subst P (take_all lane ps le) h.served in
    record {
      round = suc h.round;
      served = All-nil (IsLevel (suc (suc h.round)));
      waiting = all;
      tied = h.tied;
      logged = h.logged;
      lanes = h.lanes;
      few = h.few;
    }
