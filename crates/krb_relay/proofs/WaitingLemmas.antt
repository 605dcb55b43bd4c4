-- What came through the lanes in some rounds: taken, opened and logged.
use Rattle.std.proofs.Common.{◌≡◌, ◌≢◌, ◌⊎◌, ℕ, zero, suc, ◌+◌, ◌-◌, ◌<◌, ◌≤◌, Bool, true, false, List, [], ◌∷◌, ◌++◌, length, map, take, drop, set, get_or, Ok, Err, inl, inr, refl, sym, ap, ap₂, subst, ◌∙◌, arith, append-nil, append_assoc}
use Rattle.std.specs.Prelude.{All}
use Rattle.std.specs.VecDeque.{deque_capacity}
use Rattle.std.specs.List.{AllZip}
use Rattle.std.proofs.Math.Seq.{take-nil}
use Rattle.std.proofs.lemmas.List.{length-append, length-map, length-set, get_or_append_left, get_or-append_right, get_or-map, take_all, get_or-set_same, get_or-set_other, same_lists}
use Rattle.std.proofs.lemmas.List.Elements.{All-nil, All-cons, All-append}
use Rattle.std.proofs.lemmas.Bool.Decides.{eqb_tells}
use Rattle.krb_lane.specs.Side.{Side, LaneId}
use Rattle.krb_peers.specs.declared.receiver.Receiving.{Receiving}
use Rattle.krb_peers.specs.Demand.{Demand}
use Rattle.krb_peers.specs.LogState.{LogState}
use Rattle.krb_base.specs.Limits.{lane_limit}
use Rattle.krb_peers.specs.Log.{ended_at, is_closed}
use Rattle.krb_peers.specs.Logged.{MayBeNoted, noted, IsShut}
use Rattle.krb_peers.specs.Moments.{moment_at}
use Rattle.krb_peers.specs.Order.{demand_after}
use Rattle.krb_peers.specs.Receiver.{receiver_after, verdict_by}
use Rattle.krb_peers.specs.ReceiverState.{ReceiverState}
use Rattle.krb_seal.specs.Opening.{opens}
use Rattle.krb_peers.specs.Verdicts.{Verdict, accepted_by, records_of, verdict, verdict_on, verdicts}
use Rattle.krb_peers.proofs.LoggedLemmas.{logs_next}
use Rattle.krb_peers.proofs.OrderLemmas.{demand_after-nil, demand_after-append}
use Rattle.krb_peers.proofs.ReceiveLemmas.{verdict_is}
use Rattle.krb_relay.specs.declared.waiting.Last.{Last}
use Rattle.krb_relay.specs.declared.waiting.Last.TheVariants as last
use Rattle.krb_relay.specs.declared.waiting.Waiting.{Waiting}
use Rattle.krb_relay.specs.Gathering.{IsEnded, lane_of}
use Rattle.krb_relay.specs.Opening.{HasJudged, OpensEach, AreReady}
use Rattle.krb_relay.specs.Serving.{post, Stands, Stops, Drains, Turns, passed, closed}
use Rattle.krb_relay.specs.Waiting.{Follows, HasTaken, HaveTaken, IsJudged, AreWaiting, Waits, CanLog, IsEmpty, IsUnjudged, MayBeLogged, LogsFrame, LogsLast, LogsItem}
use Rattle.krb_relay.proofs.EndsLemmas.{all_drains_self, all_drains_more}
use Rattle.krb_relay.proofs.OpeningLemmas.{side, within_default}
use Rattle.krb_relay.proofs.StandsLemmas.{all_answered, all_logged, notes_taken, lanes_are, lane_below, lane_small, moments_of, next_round, shut_here, turned}

-- ---- what was taken

module _ (mid rx : Side) (w v : Waiting) (now : Side) (h : HasTaken mid rx w) where
  -- a frame more
  pub taken_frame : (frame : List ℕ) → rx.ended ≡ false → now ≡ record rx { frames = rx.frames ++ frame ∷ [] }
      → v.came ≡ length now.frames → v.frames.items ≡ w.frames.items ++ frame ∷ [] → v.last ≡ w.last → HasTaken mid now v
  taken_frame frame live is came frames last_is = record {
    came = came;
    same = ap (λ (x : Side). x.lane) is ∙ h.same;
    capacity = ap (λ (x : Side). x.capacity) is ∙ h.capacity;
    frames =
        ap (λ (x : Side). x.frames) is
        ∙ (ap (λ l. l ++ frame ∷ []) h.frames
        ∙ (append_assoc mid.frames w.frames.items (frame ∷ []) ∙ ap (λ l. mid.frames ++ l) (sym frames)));
    follows = follow w.last v.last last_is h.follows;
  }
    where
      still : now.ended ≡ false
      still = ap (λ (x : Side). x.ended) is ∙ live

      follow : (before after : Last) → after ≡ before → Follows before mid rx w.frames.items → Follows after mid now v.frames.items
      follow last.Nothing after at f = absurd (let g = f.1 in let e : true ≡ false = sym g ∙ live in cc)
      follow last.End after at f = absurd (let g = f.1 in let e : true ≡ false = sym g ∙ live in cc)
      follow (last.More cause) after at f =
          let P : Last → Type 0 = λ l. Follows l mid now v.frames.items in
          let there : P (last.More cause) = (f.0, still) in
          subst P (sym at) there

  -- the End
  pub taken_end : rx.ended ≡ false → now ≡ record rx { ended = true } → v.came ≡ w.came → v.frames.items ≡ w.frames.items → v.last ≡ last.End → HasTaken mid now v
  taken_end live is came frames last_is =
      let same : now.frames ≡ rx.frames = ap (λ (x : Side). x.frames) is in
      let P : Last → Type 0 = λ l. Follows l mid now v.frames.items in
      let there : P last.End = (before w.last h.follows, ap (λ (x : Side). x.ended) is) in
      record {
        came = came ∙ (h.came ∙ ap length (sym same));
        same = ap (λ (x : Side). x.lane) is ∙ h.same;
        capacity = ap (λ (x : Side). x.capacity) is ∙ h.capacity;
        frames = same ∙ (h.frames ∙ ap (λ l. mid.frames ++ l) (sym frames));
        follows = subst P (sym last_is) there;
      }
    where
      before : (l : Last) → Follows l mid rx w.frames.items → mid.ended ≡ false
      before last.Nothing f = absurd (let g = f.1 in let e : true ≡ false = sym g ∙ live in cc)
      before last.End f = f.0
      before (last.More cause) f = f.0

  -- nothing, whatever the reason
  pub taken_none : (cause : _) → rx.ended ≡ false → now ≡ rx → v.came ≡ w.came → v.frames.items ≡ w.frames.items → v.last ≡ last.More cause → HasTaken mid now v
  taken_none cause live is came frames last_is =
      let same : now.frames ≡ rx.frames = ap (λ (x : Side). x.frames) is in
      let P : Last → Type 0 = λ l. Follows l mid now v.frames.items in
      let there : P (last.More cause) = (before w.last h.follows, ap (λ (x : Side). x.ended) is ∙ live) in
      record {
        came = came ∙ (h.came ∙ ap length (sym same));
        same = ap (λ (x : Side). x.lane) is ∙ h.same;
        capacity = ap (λ (x : Side). x.capacity) is ∙ h.capacity;
        frames = same ∙ (h.frames ∙ ap (λ l. mid.frames ++ l) (sym frames));
        follows = subst P (sym last_is) there;
      }
    where
      before : (l : Last) → Follows l mid rx w.frames.items → mid.ended ≡ false
      before last.Nothing f = absurd (let g = f.1 in let e : true ≡ false = sym g ∙ live in cc)
      before last.End f = f.0
      before (last.More cause) f = f.0

-- nothing yet
pub taken_nothing : (rx : Side) (w : Waiting) → w.came ≡ length rx.frames → w.frames.items ≡ [] → Follows w.last rx rx [] → HasTaken rx rx w
taken_nothing rx w came none follows = record {
  came = came;
  same = refl;
  capacity = refl;
  frames = sym (ap (λ gs. rx.frames ++ gs) none ∙ append-nil rx.frames);
  follows = let P : List (List ℕ) → Type 0 = λ gs. Follows w.last rx rx gs in subst P (sym none) follows;
}

pub have_taken_push : (ms : List Side) (ws : List Waiting) (m : Side) (w : Waiting) → HaveTaken ms ms ws → HasTaken m m w → HaveTaken (ms ++ m ∷ []) (ms ++ m ∷ []) (ws ++ w ∷ [])
have_taken_push ms ws m w h t =
    let n = h.each_lane in
    record {
      each_end = refl;
      each_lane = length-append ws (w ∷ []) ∙ (ap (λ k. k + 1) n ∙ sym (length-append ms (m ∷ [])));
      each = λ lane a b x lt.
          let one = length-append ms (m ∷ []) in
          elim (side lane (length ms)) [
            | inl lower ↦
                rw (get_or_append_left ms (m ∷ []) a lane lower, get_or_append_left ms (m ∷ []) b lane lower, get_or_append_left ws (w ∷ []) x lane (omega (arith, n, lower)))
                (h.each lane a b x lower)
            | inr upper ↦
                let at : lane - length ms ≡ 0 = omega (arith, one, lt, upper) in
                let am : get_or (ms ++ m ∷ []) lane a ≡ m = get_or-append_right ms (m ∷ []) (length ms) lane a refl upper ∙ ap (λ i. get_or (m ∷ []) i a) at in
                let bm : get_or (ms ++ m ∷ []) lane b ≡ m = get_or-append_right ms (m ∷ []) (length ms) lane b refl upper ∙ ap (λ i. get_or (m ∷ []) i b) at in
                let xw : get_or (ws ++ w ∷ []) lane x ≡ w = get_or-append_right ws (w ∷ []) (length ms) lane x n upper ∙ ap (λ i. get_or (w ∷ []) i x) at in
                rw (am, bm, xw) t
          ];
    }

-- a turn of one lane
pub have_taken_set : (mids ends : List Side) (ws : List Waiting) (lane : ℕ) (d now : Side) (e v : Waiting) → lane < length mids
    → ((mid : Side) → HasTaken mid (get_or ends lane d) (get_or ws lane e) → HasTaken mid now v)
    → HaveTaken mids ends ws → HaveTaken mids (set ends lane now) (set ws lane v)
have_taken_set mids ends ws lane d now e v lt step h =
    let n = h.each_end in
    let m = h.each_lane in
    record {
      each_end = length-set ends lane now ∙ n;
      each_lane = length-set ws lane v ∙ m;
      each = λ other mid rx w within.
          elim (eqb_tells other lane) [
            | inl same ↦
                let P : ℕ → Type 0 = λ k. HasTaken (get_or mids k mid) (get_or (set ends lane now) k rx) (get_or (set ws lane v) k w) in
                let there : P lane =
                rw (get_or-set_same ends lane now rx (omega (arith, n, lt)), get_or-set_same ws lane v w (omega (arith, m, lt)))
                (step (get_or mids lane mid) (h.each lane mid d e lt)) in
                subst P (sym same.1) there
            | inr off ↦
                rw (get_or-set_other ends lane other now rx off.1, get_or-set_other ws lane other v w off.1) (h.each other mid rx w within)
          ];
    }

-- ---- before it is opened

some_of : {X : Type 0} (xs : List X) (k : ℕ) → k < length xs → X
some_of [] k lt = absurd (omega (arith, lt))
some_of (x ∷ xs) k lt = x

pub ready_of : (starts : List Receiving) (mids : List Side) (its : List Receiving) (log : LogState) (ends : List Side) (ws : List Waiting) → Stands 0 starts mids its log → HaveTaken mids ends ws
    → All IsUnjudged ws → AreReady its ws
ready_of starts mids its log ends ws stands h unjudged =
    let s = stands.each_end in
    let r = stands.each_receiver in
    let n = h.each_lane in
    record {
      same = omega (arith, s, r, n);
      moments = λ lane it lt. moments_of 0 starts mids its log stands lane (some_of mids lane (omega (arith, lt, r, s))) it (omega (arith, lt, r));
      ready = λ lane w lt.
          let x : Side = some_of mids lane (omega (arith, lt, n)) in
          let t = h.each lane x x w (omega (arith, lt, n)) in
          record {
            unjudged = (unjudged lane w lt).0;
            room = (unjudged lane w lt).1;
            came = (let c = t.came in let f = ap length t.frames ∙ length-append (get_or mids lane x).frames (get_or ws lane w).frames.items in omega (arith, c, f));
          };
    }

-- what was opened waits
pub waiting_of : (mids : List Side) (its : List Receiving) (ends : List Side) (receivings : List Receiving) (ws vs : List Waiting) → length its ≡ length mids → HaveTaken mids ends ws
    → OpensEach its ws receivings vs → AreWaiting mids its ends receivings vs
waiting_of mids its ends receivings ws vs same h o =
    let n = h.each_lane in
    let l = o.lanes in
    let r = o.receivers in
    record {
      taken = record {
        each_end = h.each_end;
        each_lane = l ∙ n;
        each = λ lane mid rx w lt.
            let i : Receiving = some_of its lane (omega (arith, same, lt)) in
            let op = o.each lane i i w w (omega (arith, same, lt)) in
            opened_taken (get_or mids lane mid) (get_or ends lane rx) (get_or ws lane w) (get_or vs lane w) (h.each lane mid rx w lt) op.came_is op.frames_are op.last_is;
      };
      each_receiver = r ∙ same;
      each_before = same;
      judged = λ lane mid i x w lt.
          let op = o.each lane i x w w (omega (arith, same, lt)) in
          let t = h.each lane mid mid w lt in
          let at : length (get_or mids lane mid).frames + length (get_or ws lane w).frames.items ≡ (get_or ws lane w).came =
          let c = t.came in let f = ap length t.frames ∙ length-append (get_or mids lane mid).frames (get_or ws lane w).frames.items in omega (arith, c, f) in
          let P : List (List ℕ) → Type 0 = λ fs. HasJudged (get_or its lane i) (length (get_or mids lane mid).frames) fs (get_or vs lane w).verdicts.items (get_or receivings lane x) in
          subst P (sym op.frames_are) (op.judged (length (get_or mids lane mid).frames) at);
    }
  where
    opened_taken : (mid rx : Side) (w v : Waiting) → HasTaken mid rx w → v.came ≡ w.came → v.frames.items ≡ w.frames.items → v.last ≡ w.last → HasTaken mid rx v
    opened_taken mid rx w v t came frames last_is =
        let P : Last → List (List ℕ) → Type 0 = λ l fs. Follows l mid rx fs in
        record {
          came = came ∙ t.came;
          same = t.same;
          capacity = t.capacity;
          frames = t.frames ∙ ap (λ l. mid.frames ++ l) (sym frames);
          follows = subst (λ l. P l v.frames.items) (sym last_is) (subst (λ fs. P w.last fs) (sym frames) t.follows);
        }

-- ---- one item of a lane

abbrev tail_of : {X : Type 0} → List X → List X
tail_of [] = []
tail_of (x ∷ xs) = xs

-- the first verdict that waits
module _ (mid : Side) (it now : Receiving) (w : Waiting) (frame : List ℕ) (v : Verdict) (fs : List (List ℕ)) (vs : List Verdict)
    (h : IsJudged mid it now w) (frames : w.frames.items ≡ frame ∷ fs) (judged : w.verdicts.items ≡ v ∷ vs) where
  abbrev place : ℕ
  place = length mid.frames

  abbrev first : Verdict
  first = verdict it.receiver.opener it.receiver.demand (moment_at it.nows.items (length mid.frames)) frame

  abbrev after_it : Verdict → List Verdict
  after_it u = verdicts it.receiver.opener it.nows.items (demand_after it.receiver.demand (accepted_by u)) (length mid.frames + 1) (take (length vs) fs)

  all_are : (v ∷ vs) ≡ (first ∷ after_it first)
  all_are =
      let P : List (List ℕ) → List Verdict → Type 0 = λ gs us. us ≡ verdicts it.receiver.opener it.nows.items it.receiver.demand (length mid.frames) (take (length us) gs) in
      subst (λ us. P (frame ∷ fs) us) judged (subst (λ gs. P gs w.verdicts.items) frames h.verdicts_are)

  first_is : v ≡ first
  first_is = ap (λ l. get_or l 0 v) all_are

  pub verdict_first : v ≡ verdict_by it.receiver (moment_at it.nows.items (length mid.frames)) frame
  unfolding verdict_by
  verdict_first = first_is

  rest_are : vs ≡ after_it v
  rest_are = ap (λ l. tail_of l) all_are ∙ ap (λ u. after_it u) (sym first_is)

  -- the others are verdicts of the receiver after it
  pub judged_rest : (x : Waiting) → x.frames.items ≡ fs → x.verdicts.items ≡ vs
      → IsJudged (passed mid frame) (record it { receiver = receiver_after it.receiver v }) now x
  judged_rest x same also =
      let one : length mid.frames + 1 ≡ length (mid.frames ++ frame ∷ []) = sym (length-append mid.frames (frame ∷ [])) in
      let next : Demand = demand_after it.receiver.demand (accepted_by v) in
      let after : Receiving = record it { receiver = receiver_after it.receiver v } in
      let P : List (List ℕ) → List Verdict → Type 0 = λ gs us. HasJudged after (length (mid.frames ++ frame ∷ [])) gs us now in
      let there : P fs vs = record {
        verdicts_are = rest_are ∙ ap (λ n. verdicts it.receiver.opener it.nows.items next n (take (length vs) fs)) one;
        receiver_is =
            h.receiver_is
            ∙ ap (λ (e : Demand). let z : ReceiverState = record it.receiver { demand = e } in z)
            (ap (λ us. demand_after it.receiver.demand (records_of us)) judged ∙ sym (demand_after-append it.receiver.demand (accepted_by v) (records_of vs)));
        nows_are = h.nows_are;
      } in
      subst (λ us. P x.frames.items us) (sym also) (subst (λ gs. P gs vs) (sym same) there)

-- no frame waits, so no verdict does
no_verdicts : (mid : Side) (it now : Receiving) (w : Waiting) → IsJudged mid it now w → w.frames.items ≡ [] → w.verdicts.items ≡ []
no_verdicts mid it now w j none =
    j.verdicts_are
    ∙ ap (λ gs. verdicts it.receiver.opener it.nows.items it.receiver.demand (length mid.frames) gs)
    (ap (λ gs. take (length w.verdicts.items) gs) none ∙ take-nil (length w.verdicts.items))

-- after a close nothing is delivered
open_verdict : (log : LogState) (lane : ℕ) (r : ReceiverState) (now : ℕ) (frame : List ℕ) (v : Verdict) → v ≡ verdict_by r now frame → IsShut log lane r → MayBeNoted v lane log.entries
unfolding verdict_by
open_verdict log lane r now frame (Err refusal) is shut = tt
open_verdict log lane r now frame (Ok delivery) is shut = not_closed (is_closed lane log.entries) refl
  where
    not_closed : (b : Bool) → is_closed lane log.entries ≡ b → is_closed lane log.entries ≡ false
    not_closed false at = at
    not_closed true at =
        let P : Bool → Type 0 = λ c. Ok delivery ≡ verdict_on c (opens r.opener r.demand.expected now frame) in
        let e : P true = subst P (shut at) is in
        absurd (cc)

-- a lane with a frame that waits hasn't ended
live_before : (l : Last) (mid rx : Side) (frame : List ℕ) (fs frames : List (List ℕ)) → frames ≡ frame ∷ fs → Follows l mid rx frames → mid.ended ≡ false
live_before last.Nothing mid rx frame fs frames is f = absurd (let g = f.2 in let e : frame ∷ fs ≡ [] = sym is ∙ g in cc)
live_before last.End mid rx frame fs frames is f = f.0
live_before (last.More cause) mid rx frame fs frames is f = f.0

follow_passed : (l : Last) (mid rx : Side) (frame : List ℕ) (fs frames : List (List ℕ)) → frames ≡ frame ∷ fs → Follows l mid rx frames → Follows l (passed mid frame) rx fs
follow_passed last.Nothing mid rx frame fs frames is f = absurd (let g = f.2 in let e : frame ∷ fs ≡ [] = sym is ∙ g in cc)
follow_passed last.End mid rx frame fs frames is f = f
follow_passed (last.More cause) mid rx frame fs frames is f = f

-- ---- all lanes

pub same_lanes_of : (mids ends : List Side) (ws : List Waiting) → HaveTaken mids ends ws → map lane_of ends ≡ map lane_of mids
same_lanes_of mids ends ws h =
    let n = h.each_end in
    let m = h.each_lane in
    same_lists (map lane_of ends) (map lane_of mids) (length-map ends lane_of ∙ (n ∙ sym (length-map mids lane_of))) (λ k d lt.
    let within : k < length mids = let e = length-map ends lane_of in omega (arith, e, n, lt) in
    let x : Side = some_of mids k within in
    let w : Waiting = some_of ws k (omega (arith, m, within)) in
    get_or-map lane_of ends k x d (omega (arith, n, within)) ∙ ((h.each k x x w within).same ∙ sym (get_or-map lane_of mids k x d within)))

drains_from : (ls ms : List Side) → length ms ≡ length ls → ((k : ℕ) (d e : Side) → k < length ls → Drains (get_or ls k d) (get_or ms k e)) → AllZip Drains ls ms
drains_from [] [] same each = tt
drains_from [] (m ∷ ms) same each = absurd (omega (arith, same))
drains_from (l ∷ ls) [] same each = absurd (omega (arith, same))
drains_from (l ∷ ls) (m ∷ ms) same each =
    (each 0 l m (omega arith), drains_from ls ms (omega (arith, same)) (λ k d e lt. each (suc k) d e (omega (arith, lt))))

still_ended : (l : Last) (mid rx : Side) (frames : List (List ℕ)) → Follows l mid rx frames → mid.ended ≡ true → rx.ended ≡ true
still_ended last.Nothing mid rx frames f is = f.1
still_ended last.End mid rx frames f is = f.1
still_ended (last.More cause) mid rx frames f is = absurd (let g = f.0 in let e : true ≡ false = sym is ∙ g in cc)

pub drains_of : (mids ends : List Side) (ws : List Waiting) → HaveTaken mids ends ws → AllZip Drains mids ends
drains_of mids ends ws h = drains_from mids ends h.each_end (λ k d e lt.
    let m = h.each_lane in
    let w : Waiting = some_of ws k (omega (arith, m, lt)) in
    let t = h.each k d e w lt in
    record { same = t.same; more = ((get_or ws k w).frames.items, t.frames); ended = λ is. still_ended (get_or ws k w).last (get_or mids k d) (get_or ends k e) (get_or ws k w).frames.items t.follows is })

-- where the thread stops before any round
pub stands_stop : (starts : List Receiving) (ends : List Side) (receivings : List Receiving) (log : LogState) → Stands 0 starts ends receivings log → Stops starts ends ends log
stands_stop starts ends receivings log h = record {
  mid = ends;
  judged = all_answered 0 starts ends receivings log h;
  logged = all_logged 0 starts ends receivings log h;
  lanes = lanes_are 0 starts ends receivings log h;
  taken = notes_taken 0 starts ends receivings log h;
  same = refl;
  drained = all_drains_self ends;
}

-- of the lanes below this one the round is logged
module _ (lane : ℕ) (starts : List Receiving) (ends : List Side) (receivings : List Receiving) (ws : List Waiting) (log : LogState) (h : Waits lane starts ends receivings ws log) where
  pub waits_count : length ws ≡ length starts
  waits_count = h.waits.taken.each_lane ∙ h.stands.each_end

  -- the log is that of the rounds so far
  pub waits_stop : (log-now : LogState) → log-now ≡ log → Stops starts ends ends log-now
  waits_stop log-now is =
      let P : LogState → Type 0 = λ l. Stops starts ends ends l in
      subst P (sym is) (record {
        mid = h.mids;
        judged = all_answered lane starts h.mids h.its log h.stands;
        logged = all_logged lane starts h.mids h.its log h.stands;
        lanes = lanes_are lane starts h.mids h.its log h.stands;
        taken = notes_taken lane starts h.mids h.its log h.stands;
        same = sym (same_lanes_of h.mids ends ws h.waits.taken);
        drained = drains_of h.mids ends ws h.waits.taken;
      })

  -- after the last lane the next round begins
  pub waits_next : length ws ≤ lane → Waits 0 starts ends receivings ws log
  waits_next past = record {
    mids = h.mids;
    its = h.its;
    stands = next_round lane starts h.mids h.its log h.stands (let n = h.waits.taken.each_lane in omega (arith, n, past));
    waits = h.waits;
  }

  -- the lane whose turn it is
  module _ (there : lane < length ws) where
    inside : lane < length h.mids
    inside = let n = h.waits.taken.each_lane in omega (arith, n, there)

    inside_its : lane < length h.its
    inside_its = let n = h.waits.each_before in let i = inside in omega (arith, n, i)

    inside_ends : lane < length ends
    inside_ends = let n = h.waits.taken.each_end in let i = inside in omega (arith, n, i)

    pub lane_within : lane < log.lanes
    lane_within = lane_below lane starts h.mids h.its log h.stands inside

    pub lane_few : lane < lane_limit
    lane_few = lane_small lane starts h.mids h.its log h.stands inside

    -- its end and its receiver at first
    module _ (a x : Side) (b : Receiving) where
      abbrev mid : Side
      mid = get_or h.mids lane a

      abbrev it : Receiving
      it = get_or h.its lane b

      abbrev rx : Side
      rx = get_or ends lane x

      judged_here : (d : Waiting) (r : Receiving) → IsJudged mid it (get_or receivings lane r) (get_or ws lane d)
      judged_here d r = h.waits.judged lane a b r d inside

      taken_here : (d : Waiting) → HasTaken mid rx (get_or ws lane d)
      taken_here d = h.waits.taken.each lane a x d inside

      may_be_logged_by : (d : Waiting) → MayBeLogged (get_or ws lane d) lane log
      may_be_logged_by d v vs is = open_of (get_or ws lane d).frames.items refl
        where
          open_of : (fs : List (List ℕ)) → (get_or ws lane d).frames.items ≡ fs → MayBeNoted v lane log.entries
          open_of [] same = absurd (let e : (v ∷ vs) ≡ [] = sym is ∙ no_verdicts mid it (get_or receivings lane b) (get_or ws lane d) (judged_here d b) same in cc)
          open_of (frame ∷ fs) same =
              open_verdict log lane it.receiver (moment_at it.nows.items (length mid.frames)) frame v
              (verdict_first mid it (get_or receivings lane b) (get_or ws lane d) frame v fs vs (judged_here d b) same is)
              (shut_here lane starts h.mids h.its log h.stands inside a b)

      -- a lane is written
      write : (mid-now : Side) (it-now : Receiving) (v : Waiting) (log-now : LogState) → ((start : Receiving) → Turns lane (post start mid it) log (post start mid-now it-now) log-now)
          → HasTaken mid-now rx v → ((r : Receiving) → IsJudged mid-now it-now (get_or receivings lane r) v) → Waits (lane + 1) starts ends receivings (set ws lane v) log-now
      write mid-now it-now v log-now turns taken judged =
          let each_end = h.waits.taken.each_end in
          let each_lane = h.waits.taken.each_lane in
          let each_before = h.waits.each_before in
          let grown : length (set h.mids lane mid-now) ≡ length h.mids = length-set h.mids lane mid-now in
          record {
            mids = set h.mids lane mid-now;
            its = set h.its lane it-now;
            stands = turned lane starts h.mids h.its log h.stands inside a mid-now b it-now log-now turns;
            waits = record {
              taken = record {
                each_end = each_end ∙ sym grown;
                each_lane = length-set ws lane v ∙ (each_lane ∙ sym grown);
                each = λ other c y w lt.
                    elim (eqb_tells other lane) [
                      | inl same ↦
                          let P : ℕ → Type 0 = λ k. HasTaken (get_or (set h.mids lane mid-now) k c) (get_or ends k y) (get_or (set ws lane v) k w) in
                          let at : P lane = rw (get_or-set_same h.mids lane mid-now c inside, get_or-set_same ws lane v w there, within_default ends lane y x inside_ends) taken in
                          subst P (sym same.1) at
                      | inr off ↦
                          rw (get_or-set_other h.mids lane other mid-now c off.1, get_or-set_other ws lane other v w off.1)
                          (h.waits.taken.each other c y w (omega (arith, grown, lt)))
                    ];
              };
              each_receiver = h.waits.each_receiver ∙ sym grown;
              each_before = length-set h.its lane it-now ∙ (each_before ∙ sym grown);
              judged = λ other c i r w lt.
                  elim (eqb_tells other lane) [
                    | inl same ↦
                        let P : ℕ → Type 0 = λ k. IsJudged (get_or (set h.mids lane mid-now) k c) (get_or (set h.its lane it-now) k i) (get_or receivings k r) (get_or (set ws lane v) k w) in
                        let at : P lane = rw (get_or-set_same h.mids lane mid-now c inside, get_or-set_same h.its lane it-now i inside_its, get_or-set_same ws lane v w there) (judged r) in
                        subst P (sym same.1) at
                    | inr off ↦
                        rw (get_or-set_other h.mids lane other mid-now c off.1, get_or-set_other h.its lane other it-now i off.1, get_or-set_other ws lane other v w off.1)
                        (h.waits.judged other c i r w (omega (arith, grown, lt)))
                  ];
            };
          }

      frame_logged : (d v : Waiting) (log-now : LogState) → LogsFrame lane (get_or ws lane d) log v log-now → Waits (lane + 1) starts ends receivings (set ws lane v) log-now
      frame_logged d v log-now l =
          let w : Waiting = get_or ws lane d in
          let t = taken_here d in
          let fs : List (List ℕ) = v.frames.items in
          let mid-now : Side = passed mid l.frame in
          let it-now : Receiving = record it { receiver = receiver_after it.receiver l.verdict } in
          let moment : ℕ = moment_at it.nows.items (length mid.frames) in
          let first-is : l.verdict ≡ verdict_by it.receiver moment l.frame = verdict_first mid it (get_or receivings lane b) w l.frame l.verdict fs v.verdicts.items (judged_here d b) l.frames_are l.verdicts_are in
          let log-is : log-now ≡ noted log lane (verdict_by it.receiver moment l.frame) = l.log_is ∙ ap (λ u. noted log lane u) first-is in
          let receiver-is : it-now.receiver ≡ receiver_after it.receiver (verdict_by it.receiver moment l.frame) = ap (λ u. receiver_after it.receiver u) first-is in
          write mid-now it-now v log-now
          (λ start. inr (inr (record {
            frame = l.frame;
            live = live_before w.last mid rx l.frame fs w.frames.items l.frames_are t.follows;
            start_is = refl;
            rx_is = refl;
            receiver_is = receiver-is;
            nows_is = refl;
            log_is = log-is;
            logs = logs_next it.receiver log lane moment l.frame it-now.receiver log-now (verdict_is it.receiver moment l.frame l.bytes) receiver-is log-is;
          })))
          (record {
            came = l.came_is ∙ t.came;
            same = t.same;
            capacity = t.capacity;
            frames = t.frames ∙ (ap (λ gs. mid.frames ++ gs) l.frames_are ∙ sym (append_assoc mid.frames (l.frame ∷ []) fs));
            follows = (let P : Last → Type 0 = λ y. Follows y mid-now rx fs in subst P (sym l.last_is) (follow_passed w.last mid rx l.frame fs w.frames.items l.frames_are t.follows));
          })
          (λ r. judged_rest mid it (get_or receivings lane r) w l.frame l.verdict fs v.verdicts.items (judged_here d r) l.frames_are l.verdicts_are v refl refl)

      same_judged : (d v : Waiting) → v.frames.items ≡ (get_or ws lane d).frames.items → v.verdicts.items ≡ (get_or ws lane d).verdicts.items
          → (r : Receiving) → IsJudged mid it (get_or receivings lane r) v
      same_judged d v frames verdicts-are r =
          let P : List (List ℕ) → List Verdict → Type 0 = λ gs us. HasJudged it (length mid.frames) gs us (get_or receivings lane r) in
          subst (λ gs. P gs v.verdicts.items) (sym frames) (subst (λ us. P (get_or ws lane d).frames.items us) (sym verdicts-are) (judged_here d r))

      last_logged : (d v : Waiting) (log-now : LogState) → LogsLast lane (get_or ws lane d) log v log-now → Waits (lane + 1) starts ends receivings (set ws lane v) log-now
      last_logged d v log-now l = by_follows l.follows
        where
          w : Waiting
          w = get_or ws lane d

          none : v.frames.items ≡ []
          none = l.frames_are ∙ l.none

          took : (mid-now : Side) → mid-now.lane ≡ mid.lane → mid-now.capacity ≡ mid.capacity → mid-now.frames ≡ mid.frames → mid-now.ended ≡ true → rx.ended ≡ true → HasTaken mid-now rx v
          took mid-now lane-is capacity-is frames-are ended over =
              let t = taken_here d in
              let Q : Last → Type 0 = λ y. Follows y mid-now rx v.frames.items in
              let q : Q last.Nothing = (ended, over, none) in
              record {
                came = l.came_is ∙ t.came;
                same = t.same ∙ sym lane-is;
                capacity = t.capacity ∙ sym capacity-is;
                frames = t.frames ∙ ap₂ (λ ms gs. ms ++ gs) (sym frames-are) (sym l.frames_are);
                follows = subst Q (sym l.last_is) q;
              }

          follows_at : (y : Last) → (get_or ws lane d).last ≡ y → Follows y mid rx (get_or ws lane d).frames.items
          follows_at y is = let P : Last → Type 0 = λ z. Follows z mid rx (get_or ws lane d).frames.items in subst P is (taken_here d).follows

          by_follows : (((get_or ws lane d).last ≡ last.Nothing) × (log-now ≡ log)) ⊎ (((get_or ws lane d).last ≡ last.End) × (log-now ≡ ended_at log lane))
              → Waits (lane + 1) starts ends receivings (set ws lane v) log-now
          by_follows (inl rests) =
              let f : Follows last.Nothing mid rx (get_or ws lane d).frames.items = follows_at last.Nothing rests.0 in
              write mid it v log-now
              (λ start. inl (record { ended = f.0; same = refl; log_is = rests.1 }))
              (took mid refl refl refl f.0 f.1)
              (same_judged d v l.frames_are l.verdicts_are)
          by_follows (inr over) =
              let f : Follows last.End mid rx (get_or ws lane d).frames.items = follows_at last.End over.0 in
              write (closed mid) it v log-now
              (λ start. inr (inl (record { closes = refl; log_is = over.1 })))
              (took (closed mid) refl refl refl refl f.1)
              (same_judged d v l.frames_are l.verdicts_are)

      item_logged_by : (d v : Waiting) (log-now : LogState) → LogsItem lane (get_or ws lane d) log v log-now → Waits (lane + 1) starts ends receivings (set ws lane v) log-now
      item_logged_by d v log-now (inl l) = frame_logged d v log-now l
      item_logged_by d v log-now (inr l) = last_logged d v log-now l

    -- what waits first may be noted
    pub may_be_logged : (d : Waiting) → MayBeLogged (get_or ws lane d) lane log
    may_be_logged d = may_be_logged_by (some_of h.mids lane inside) (some_of ends lane inside_ends) (some_of h.its lane inside_its) d

    pub item_logged : (d v : Waiting) (log-now : LogState) → LogsItem lane (get_or ws lane d) log v log-now → Waits (lane + 1) starts ends receivings (set ws lane v) log-now
    item_logged d v log-now l = item_logged_by (some_of h.mids lane inside) (some_of ends lane inside_ends) (some_of h.its lane inside_its) d v log-now l

side_is : (m e : Side) → m.lane ≡ e.lane → m.capacity ≡ e.capacity → m.frames ≡ e.frames → m.ended ≡ e.ended → m ≡ e
side_is m e lane-is capacity-is frames-are ended-is =
    let A : LaneId → Side = λ l. record { lane = l; capacity = m.capacity; frames = m.frames; ended = m.ended } in
    let B : ℕ → Side = λ n. record { lane = e.lane; capacity = n; frames = m.frames; ended = m.ended } in
    let C : List (List ℕ) → Side = λ fs. record { lane = e.lane; capacity = e.capacity; frames = fs; ended = m.ended } in
    let D : Bool → Side = λ b. record { lane = e.lane; capacity = e.capacity; frames = e.frames; ended = b } in
    ap A lane-is ∙ (ap B capacity-is ∙ (ap C frames-are ∙ ap D ended-is))

-- nothing waits: the lanes were logged as far as they were taken
module _ (starts : List Receiving) (ends : List Side) (receivings : List Receiving) (ws : List Waiting) (log : LogState) (h : Waits 0 starts ends receivings ws log) (none : All IsEmpty ws) where
  ended_alike : (l : Last) (m e : Side) (frames : List (List ℕ)) → l ≢ last.End → Follows l m e frames → m.ended ≡ e.ended
  ended_alike last.Nothing m e frames off f = f.0 ∙ sym f.1
  ended_alike last.End m e frames off f = absurd (off refl)
  ended_alike (last.More cause) m e frames off f = f.0 ∙ sym f.1

  same_side : (m e : Side) (w : Waiting) → HasTaken m e w → IsEmpty w → m ≡ e
  same_side m e w t none-is =
      let frames : m.frames ≡ e.frames = sym (t.frames ∙ (ap (λ gs. m.frames ++ gs) none-is.no_frame ∙ append-nil m.frames)) in
      let ended : m.ended ≡ e.ended = ended_alike w.last m e w.frames.items none-is.no_end t.follows in
      side_is m e (sym t.same) (sym t.capacity) frames ended

  same_receiving : (m : Side) (before now : Receiving) (w : Waiting) → IsJudged m before now w → IsEmpty w → before ≡ now
  same_receiving m before now w j none-is =
      let judged : w.verdicts.items ≡ [] = no_verdicts m before now w j none-is.no_frame in
      let r : now.receiver ≡ before.receiver =
      j.receiver_is ∙ ap (λ (d : Demand). let z : ReceiverState = record before.receiver { demand = d } in z)
      (ap (λ us. demand_after before.receiver.demand (records_of us)) judged ∙ demand_after-nil before.receiver.demand) in
      sym (ap₂ (λ (x : ReceiverState) n. let z : Receiving = record { receiver = x; nows = n } in z) r j.nows_are)

  pub waits_over : Stands 0 starts ends receivings log
  waits_over =
      let n = h.waits.taken.each_end in
      let m = h.waits.taken.each_lane in
      let b = h.waits.each_before in
      let r = h.waits.each_receiver in
      let sides : h.mids ≡ ends = same_lists h.mids ends (sym n) (λ k d lt.
      let w : Waiting = some_of ws k (omega (arith, m, lt)) in
      same_side (get_or h.mids k d) (get_or ends k d) (get_or ws k w) (h.waits.taken.each k d d w lt) (none k w (omega (arith, m, lt)))) in
      let them : h.its ≡ receivings = same_lists h.its receivings (b ∙ sym r) (λ k d lt.
      let within : k < length h.mids = omega (arith, b, lt) in
      let w : Waiting = some_of ws k (omega (arith, m, within)) in
      let x : Side = some_of h.mids k within in
      same_receiving (get_or h.mids k x) (get_or h.its k d) (get_or receivings k d) (get_or ws k w) (h.waits.judged k x d d w within) (none k w (omega (arith, m, within)))) in
      let P : List Side → List Receiving → Type 0 = λ x y. Stands 0 starts x y log in
      subst (λ x. P x receivings) sides (subst (λ y. P h.mids y) them h.stands)

-- the lanes are those of these ends
pub stops_from : (starts : List Receiving) (before ends now : List Side) (log : LogState) → Stops starts ends now log → map lane_of ends ≡ map lane_of before → Stops starts before now log
stops_from starts before ends now log h same = record {
  mid = h.mid;
  judged = h.judged;
  logged = h.logged;
  lanes = h.lanes;
  taken = h.taken;
  same = h.same ∙ same;
  drained = h.drained;
}

-- ---- the lists of a round

pub unjudged_set : (ws : List Waiting) (lane : ℕ) (d v : Waiting) → lane < length ws → All IsUnjudged ws → v.verdicts ≡ (get_or ws lane d).verdicts → All IsUnjudged (set ws lane v)
unjudged_set ws lane d v lt all same other e within =
    let inside : other < length ws = let n = length-set ws lane v in omega (arith, n, within) in
    elim (eqb_tells other lane) [
      | inl is ↦
          let P : ℕ → Type 0 = λ k. IsUnjudged (get_or (set ws lane v) k e) in
          let one = all lane d lt in
          let at : P lane = rw (get_or-set_same ws lane v e lt) (ap (λ q. q.items) same ∙ one.0, subst (λ n. 0 < n) (sym (ap (λ q. deque_capacity q) same)) one.1) in
          subst P (sym is.1) at
      | inr off ↦ rw (get_or-set_other ws lane other v e off.1) (all other e inside)
    ]

pub unjudged_push : (ws : List Waiting) (w : Waiting) → All IsUnjudged ws → IsUnjudged w → All IsUnjudged (ws ++ w ∷ [])
unjudged_push ws w all one = All-append IsUnjudged ws (w ∷ []) all (All-cons IsUnjudged w [] one (All-nil IsUnjudged))

pub have_taken_none : (ws : List Waiting) → ws ≡ [] → HaveTaken [] [] ws
have_taken_none ws none = record {
  each_end = refl;
  each_lane = ap length none;
  each = λ lane a x w lt. absurd (omega (arith, lt));
}

pub unjudged_none : (ws : List Waiting) → ws ≡ [] → All IsUnjudged ws
unjudged_none ws none = let P : List Waiting → Type 0 = λ vs. All IsUnjudged vs in subst P (sym none) (All-nil IsUnjudged)
