-- What a turn leaves of a relay.
use Rattle.std.proofs.Common.{◌≡◌, ◌≢◌, ◌↔◌, ℕ, zero, suc, ◌+◌, ◌<◌, false, List, [], ◌∷◌, ◌++◌, length, set, get_or, take, slice_get, Option, Some, None, Result, Ok, Err, refl, sym, ap, ap₂, subst, ◌∙◌, arith}
use Rattle.std.proofs.lemmas.Option.{slice_get-get_or}
use Rattle.std.proofs.lemmas.List.{take_more, length-set}
use Rattle.std.specs.Prelude.{OnOk, OnErr, IfOk}
use Rattle.krb_base.specs.Lane.{Item, Frame, End, is_possible}
use Rattle.krb_base.specs.Lane as event
use Rattle.krb_peers.specs.declared.sending.Sent.{Sent}
use Rattle.krb_core.specs.declared.turn.Did.{Did}
use Rattle.krb_core.specs.declared.turn.Did.TheVariants.{Waits}
use Rattle.krb_core.specs.declared.turn.Turn.{Turn}
use Rattle.krb_core.specs.declared.turn.Turn.TheVariants.{Send, Take}
use Rattle.krb_peers.specs.LogState.{LogState}
use Rattle.krb_peers.specs.ReceiverState.{ReceiverState}
use Rattle.krb_core.specs.Track.{TrackState, receiver_then, log_then, verdict_now, next_send, after_send, after_take, log_after, HasFrameFirst}
use Rattle.krb_peers.specs.Logged.{IsShut}
use Rattle.krb_core.specs.Stepped.{Relay, lane_of, track_after, turned_at, turned, after, may_move, TakesFrame, StopsAt, IsRelay}
use Rattle.krb_peers.proofs.LoggedLemmas.{shut_same, shut_other}

-- ---- closes in a log

-- what is taken keeps a lane shut
shut_after : (log : LogState) (lane : ℕ) (track : TrackState) (queue : List (Item (List ℕ))) → IsShut log lane track.receiver → IsShut (log_then log lane track queue) lane (receiver_then track queue)
shut_after log lane track [] h = h
shut_after log lane track (Frame f ∷ queue) h = shut_same log lane track.receiver (verdict_now track f) h
shut_after log lane track (End ∷ queue) h = h

shut_beside : (log : LogState) (number lane : ℕ) (track : TrackState) (r : ReceiverState) (queue : List (Item (List ℕ))) → number ≢ lane → IsShut log lane r → IsShut (log_then log number track queue) lane r
shut_beside log number lane track r [] other h = h
shut_beside log number lane track r (Frame f ∷ queue) other h = shut_other log number lane r (verdict_now track f) other h
shut_beside log number lane track r (End ∷ queue) other h = h

same_lanes : (log : LogState) (number : ℕ) (track : TrackState) (queue : List (Item (List ℕ))) → (log_then log number track queue).lanes ≡ log.lanes
same_lanes log number track [] = refl
same_lanes log number track (Frame f ∷ queue) = refl
same_lanes log number track (End ∷ queue) = refl

-- ---- one lane of all

-- what stands at a place of a changed list
pub data Read {X : Type 0} (xs : List X) (k j : ℕ) (x y : X) : Type 0 where
  same : j ≡ k → y ≡ x → Read xs k j x y
  other : k ≢ j → slice_get xs j ≡ Some y → Read xs k j x y

pub read_set : {X : Type 0} (xs : List X) (k j : ℕ) (x y : X) → slice_get (set xs k x) j ≡ Some y → Read xs k j x y
read_set [] k j x y h = absurd (let e = h in cc)
read_set (z ∷ xs) zero zero x y h = same refl (let e : x ≡ y = cc in sym e)
read_set (z ∷ xs) zero (suc j) x y h = other (λ e. omega arith) h
read_set (z ∷ xs) (suc k) zero x y h = other (λ e. omega arith) h
read_set (z ∷ xs) (suc k) (suc j) x y h =
    elim (read_set xs k j x y h) [
      | same e f ↦ same (ap suc e) f
      | other e f ↦ other (λ i. e (omega arith)) f
    ]

pub set-same : {X : Type 0} (xs : List X) (k : ℕ) (x : X) → slice_get xs k ≡ Some x → set xs k x ≡ xs
set-same [] k x h = absurd (let e = h in cc)
set-same (z ∷ xs) zero x h = let e : z ≡ x = cc in ap (λ y. y ∷ xs) (sym e)
set-same (z ∷ xs) (suc k) x h = ap (λ l. z ∷ l) (set-same xs k x h)

pub get-get_or : {X : Type 0} (xs : List X) (k : ℕ) (x : X) → k < length xs → x ≡ get_or xs k x → slice_get xs k ≡ Some x
get-get_or [] k x lt is = absurd (omega arith)
get-get_or (z ∷ xs) zero x lt is = ap (λ y. Some y) (sym is)
get-get_or (z ∷ xs) (suc k) x lt is = get-get_or xs k x (omega arith) is

-- ---- a turn keeps the relay

pub relay_taken : (tracks : List TrackState) (log : LogState) (sents : List Sent) (k : ℕ) (old : TrackState) → slice_get tracks k ≡ Some old → IsRelay tracks log sents → IsRelay (set tracks k (after_take old)) (log_after log k old) sents
relay_taken tracks log sents k old at h = record {
  lanes = length-set tracks k (after_take old) ∙ (h.lanes ∙ sym (same_lanes log k old old.lane.queue));
  sealed = h.sealed ∙ sym (length-set tracks k (after_take old));
  shut = λ lane track is. elim (read_set tracks k lane (after_take old) track is) [
    | same e f ↦ rw (e, f) (shut_after log k old old.lane.queue (h.shut k old at))
    | other e f ↦ shut_beside log k lane old track.receiver old.lane.queue e (h.shut lane track f)
  ];
}

-- a take that is answered keeps it too
pub relay_by : {E : Type 0} (r : Result Did E) (tracks : List TrackState) (log log-now : LogState) (sents : List Sent) (k : ℕ) (old now : TrackState) → slice_get tracks k ≡ Some old
    → OnOk r (now ≡ after_take old) → OnOk r (log-now ≡ log_after log k old) → OnErr r (now ≡ old) → OnErr r (log-now ≡ log)
    → IsRelay tracks log sents → IsRelay (set tracks k now) log-now sents
relay_by (Ok did) tracks log log-now sents k old now at t l u w h = rw (t, l) (relay_taken tracks log sents k old at h)
relay_by (Err e) tracks log log-now sents k old now at t l u w h = rw (u, w, set-same tracks k old at) h

-- ---- one turn

abbrev pub relay_of : List TrackState → LogState → List Sent → Relay
relay_of tracks log sents = record { tracks = tracks; log = log; sents = sents }

-- what a turn leaves, and whether it moved
pub record IsStep (relay now : Relay) (t : Turn) (did : Did) : Type 0 where
  pub leaves : now ≡ turned relay t
  pub waits : (did ≡ Waits) ↔ (may_move relay t ≡ false)

pub step_send : (tracks : List TrackState) (log : LogState) (sents : List Sent) (k : ℕ) (old now : TrackState) (did : Did) → slice_get tracks k ≡ Some old
    → now ≡ after_send old → (did ≡ Waits) ↔ (is_possible old.lane (next_send old) ≡ false)
    → IsStep (relay_of tracks log sents) (relay_of (set tracks k now) log sents) (Send k) did
step_send tracks log sents k old now did at is waits = record {
  leaves = ap (λ t. relay_of (set tracks k t) log sents) is ∙ ap (λ o. turned_at (relay_of tracks log sents) (Send k) o) (sym at);
  waits = rw at waits;
}

pub step_take : {E : Type 0} (r : Result Did E) (tracks : List TrackState) (log log-now : LogState) (sents : List Sent) (k : ℕ) (old now : TrackState) → slice_get tracks k ≡ Some old
    → OnOk r (now ≡ after_take old) → OnOk r (log-now ≡ log_after log k old) → IfOk r (λ did. (did ≡ Waits) ↔ (is_possible old.lane event.Take ≡ false))
    → IfOk r (λ did. IsStep (relay_of tracks log sents) (relay_of (set tracks k now) log-now sents) (Take k) did)
step_take (Ok did) tracks log log-now sents k old now at t l waits = record {
  leaves = ap₂ (λ x y. relay_of (set tracks k x) y sents) t l ∙ ap (λ o. turned_at (relay_of tracks log sents) (Take k) o) (sym at);
  waits = rw at waits;
}
step_take (Err e) tracks log log-now sents k old now at t l waits = tt

pub take_leaves : {E : Type 0} (r : Result Did E) (relay now : Relay) (t : Turn) → IfOk r (λ did. IsStep relay now t did) → OnOk r (now ≡ turned relay t)
take_leaves (Ok did) relay now t h = h.leaves
take_leaves (Err e) relay now t h = tt

pub take_waits : {E : Type 0} (r : Result Did E) (relay now : Relay) (t : Turn) → IfOk r (λ did. IsStep relay now t did) → IfOk r (λ did. (did ≡ Waits) ↔ (may_move relay t ≡ false))
take_waits (Ok did) relay now t h = h.waits
take_waits (Err e) relay now t h = tt

-- where memory is wanting, nothing is changed
pub take_undone : {X E : Type 0} (r : Result X E) (tracks : List TrackState) (log log-now : LogState) (sents : List Sent) (k : ℕ) (old now : TrackState) → slice_get tracks k ≡ Some old
    → OnErr r (now ≡ old) → OnErr r (log-now ≡ log) → OnErr r (relay_of (set tracks k now) log-now sents ≡ relay_of tracks log sents)
take_undone (Ok x) tracks log log-now sents k old now at t l = tt
take_undone (Err e) tracks log log-now sents k old now at t l = ap₂ (λ x y. relay_of (set tracks k x) y sents) t l ∙ ap (λ ts. relay_of ts log sents) (set-same tracks k old at)

-- and a frame was to be taken
pub take_memory : {X E : Type 0} (r : Result X E) (tracks : List TrackState) (log : LogState) (sents : List Sent) (k : ℕ) (old : TrackState) → slice_get tracks k ≡ Some old
    → OnErr r (HasFrameFirst old) → OnErr r (TakesFrame (relay_of tracks log sents) (Take k))
take_memory (Ok x) tracks log sents k old at first = tt
take_memory (Err e) tracks log sents k old at first = record { lane = k; takes = refl; track = old; at = at; frame = first }

-- turns stop at one that takes a frame
pub stops_at : (relay now : Relay) (turns : List Turn) (i : ℕ) (d : Turn) → i < length turns → now ≡ relay → TakesFrame relay (get_or turns i d) → StopsAt now turns i
stops_at relay now turns i d lt kept takes =
    let P : Relay → Type 0 = λ r. TakesFrame r (get_or turns i d) in
    record { turn = get_or turns i d; next = slice_get-get_or turns i d lt; takes = subst P (sym kept) takes }

pub on_err : {X E : Type 0} (P : Type 0) (r : Result X E) → P → OnErr r P
on_err P (Ok x) h = tt
on_err P (Err e) h = h

-- the lanes stay
turned_count_at : (relay : Relay) (t : Turn) (o : Option TrackState) → length (turned_at relay t o).tracks ≡ length relay.tracks
turned_count_at relay t None = refl
turned_count_at relay t (Some track) = length-set relay.tracks (lane_of t) (track_after t track)

pub turned_count : (relay : Relay) (t : Turn) → length (turned relay t).tracks ≡ length relay.tracks
turned_count relay t = turned_count_at relay t (slice_get relay.tracks (lane_of t))

-- ---- one turn more

pub after-push : (relay : Relay) (ts : List Turn) (t : Turn) → after relay (ts ++ t ∷ []) ≡ turned (after relay ts) t
after-push relay [] t = refl
after-push relay (s ∷ ts) t = after-push (turned relay s) ts t

pub after_more : (relay then now : Relay) (turns : List Turn) (i : ℕ) (d : Turn) → i < length turns → then ≡ after relay (take i turns) → now ≡ turned then (get_or turns i d) → now ≡ after relay (take (i + 1) turns)
after_more relay then now turns i d lt is now_is = now_is ∙ rw (is, take_more turns i d lt) (sym (after-push relay (take i turns) (get_or turns i d)))

pub count_more : (relay then now : Relay) (turns : List Turn) (i : ℕ) (d : Turn) → length then.tracks ≡ length relay.tracks → now ≡ turned then (get_or turns i d) → length now.tracks ≡ length relay.tracks
count_more relay then now turns i d count now_is = ap (λ r. length r.tracks) now_is ∙ (turned_count then (get_or turns i d) ∙ count)
