-- What rounds leave of a relay of which no turn was taken.
use Rattle.std.proofs.Common.{◌≡◌, ℕ, zero, suc, ◌+◌, ◌<◌, ◌≤◌, ◌⊎◌, min, List, [], ◌∷◌, ◌++◌, length, map, take, slice_get, Option, Some, None, inl, inr, refl, sym, ap, ap₂, subst, ◌∙◌, arith, append-nil, append_assoc}
use Rattle.std.specs.Prelude.{option_map}
use Rattle.std.specs.List.{All}
use Rattle.std.proofs.lemmas.List.{take_all, length-map}
use Rattle.std.proofs.lemmas.List.Elements.{All-nil, All-cons, All-head, All-tail}
use Rattle.std.proofs.lemmas.Option.{slice_get_past, slice_get_within, slice_get-map}
use Rattle.krb_base.specs.Prefix.{IsPrefix}
use Rattle.krb_seal.specs.Opens.{OpenerState}
use Rattle.krb_peers.specs.declared.log.Event.{Event}
use Rattle.krb_peers.specs.declared.sending.Sent.{Sent}
use Rattle.krb_core.specs.declared.turn.Turn.{Turn}
use Rattle.krb_peers.specs.Demand.{Demand}
use Rattle.krb_peers.specs.Log.{ended_at}
use Rattle.krb_peers.specs.LogState.{LogState}
use Rattle.krb_peers.specs.ReceiverState.{ReceiverState}
use Rattle.krb_peers.specs.Receiver.{receiver_after}
use Rattle.krb_peers.specs.Moments.{moment_at}
use Rattle.krb_core.specs.Start.{fresh, AreBegun}
use Rattle.krb_peers.specs.Ends.{Ends}
use Rattle.krb_core.specs.Relayed.{HasTurned}
use Rattle.krb_peers.specs.Order.{demand_after}
use Rattle.krb_peers.specs.Verdicts.{Verdict, accepted_by, events_by, groups_of, records_of, verdict, verdicts}
use Rattle.krb_core.specs.Track.{TrackState, after_send, after_take, log_after}
use Rattle.krb_peers.specs.Receiver.{verdict_by}
use Rattle.krb_peers.specs.Logged.{noted, entries_by}
use Rattle.krb_core.specs.TrackPlaces.{ArePlaces}
use Rattle.krb_core.specs.Stepped.{Relay, after}
use Rattle.krb_peers.specs.Rounds.{named, round, rounds_below, NoneLonger}
use Rattle.krb_core.specs.Finish.{round_turns, rounds_turns, longest_wire, finishing, groups_over, whole_log}
use Rattle.krb_peers.proofs.OrderLemmas.{demand_after-nil, demand_after-append}
use Rattle.krb_core.proofs.TrackLemmas.{track_at, send_moves, send_over, take_frame, take_end, take_none}
use Rattle.krb_core.proofs.SteppedLemmas.{relay_of}
use Rattle.krb_peers.proofs.RoundsLemmas.{rounds-from_below}
use Rattle.krb_peers.proofs.VerdictLemmas.{length-verdicts}
use Rattle.krb_peers.proofs.LoggedLemmas.{records_of-push}
use Rattle.krb_core.proofs.RelayedClaims.{after-append}
use Rattle.krb_core.proofs.TurnLemmas.{stepped, log_round, round_leaves, entries_grow, IsPartOf}

-- ---- the verdict on a frame of a wire

verdict-at : (opener : OpenerState) (nows : List ℕ) (demand : Demand) (place : ℕ) (wire : List (List ℕ)) (k : ℕ) (frame : List ℕ) → slice_get wire k ≡ Some frame
    → let vs = verdicts opener nows demand place wire in
    slice_get vs k ≡ Some (verdict opener (demand_after demand (records_of (take k vs))) (moment_at nows (place + k)) frame)
verdict-at opener nows demand place [] k frame at = absurd (let e = at in cc)
verdict-at opener nows demand place (g ∷ wire) zero frame at =
    let same : g ≡ frame = (let e = at in cc) in
    let p : place ≡ place + 0 = omega arith in
    ap (λ f. Some (verdict opener demand (moment_at nows place) f)) same
    ∙ ap₂ (λ (d : Demand) (n : ℕ). Some (verdict opener d (moment_at nows n) frame)) (sym (demand_after-nil demand)) p
verdict-at opener nows demand place (g ∷ wire) (suc k) frame at =
    let v = verdict opener demand (moment_at nows place) g in
    let rest = verdicts opener nows (demand_after demand (accepted_by v)) (place + 1) wire in
    let p : place + 1 + k ≡ place + suc k = omega arith in
    verdict-at opener nows (demand_after demand (accepted_by v)) (place + 1) wire k frame at
    ∙ ap₂ (λ (d : Demand) (n : ℕ). Some (verdict opener d (moment_at nows n) frame)) (demand_after-append demand (accepted_by v) (records_of (take k rest))) p

-- ---- each verdict is one group

named-verdict : (lane : ℕ) (vs : List Verdict) (k : ℕ) (v : Verdict) → slice_get vs k ≡ Some v → entries_by lane v ≡ named lane (slice_get (groups_of vs) k)
named-verdict lane vs k v at = ap (named lane) (sym (slice_get-map events_by vs k ∙ ap (option_map events_by) at))

-- ---- one lane, round by round

take-next : {X : Type 0} (k : ℕ) (xs : List X) (x : X) → slice_get xs k ≡ Some x → take (k + 1) xs ≡ take k xs ++ x ∷ []
take-next k [] x at = absurd (let e = at in cc)
take-next zero (y ∷ xs) x at = let e : y ≡ x = (let f = at in cc) in ap (λ z. z ∷ []) e
take-next (suc k) (y ∷ xs) x at = let e : suc k + 1 ≡ suc (k + 1) = omega arith in rw e (ap (λ z. y ∷ z) (take-next k xs x at))

past : {X : Type 0} (xs : List X) (n : ℕ) → slice_get xs n ≡ None → length xs ≤ n
past [] n at = omega arith
past (x ∷ xs) zero at = absurd (let e = at in cc)
past (x ∷ xs) (suc n) at = omega (arith, past xs n at)

same_or_over : (a b : ℕ) → a ≤ b → (a ≡ b) ⊎ (a < b)
same_or_over zero zero h = inl refl
same_or_over zero (suc b) h = inr (omega arith)
same_or_over (suc a) zero h = absurd (omega arith)
same_or_over (suc a) (suc b) h = elim (same_or_over a b (omega arith)) [ inl same ↦ inl (ap suc same) | inr more ↦ inr (omega (arith, more)) ]

module _ (begun : TrackState) where
  abbrev pub start : Demand
  start = begun.receiver.demand

  abbrev pub answers : List Verdict
  answers = verdicts begun.receiver.opener begun.nows start 0 begun.wire

  length-answers : length answers ≡ length begun.wire
  length-answers = length-verdicts begun.receiver.opener begun.nows start 0 begun.wire

  length-over : length (groups_over begun) ≡ length begun.wire
  length-over = length-map answers events_by ∙ length-answers

  -- so many of its items were sent and taken
  abbrev pub received : ℕ → ReceiverState
  received k = record begun.receiver { demand = demand_after begun.receiver.demand (records_of (take k answers)) }

  abbrev pub so_far : ℕ → TrackState
  so_far k = track_at begun.wire begun.lane.capacity k k (received k) begun.nows

  answer-at : (k : ℕ) (frame : List ℕ) → slice_get begun.wire k ≡ Some frame → slice_get answers k ≡ Some (verdict_by (received k) (moment_at begun.nows k) frame)
  unfolding verdict_by
  answer-at k frame at =
      let p : 0 + k ≡ k = omega arith in
      verdict-at begun.receiver.opener begun.nows start 0 begun.wire k frame at
      ∙ ap (λ n. Some (verdict begun.receiver.opener (demand_after begun.receiver.demand (records_of (take k answers))) (moment_at begun.nows n) frame)) p

  received-next : (k : ℕ) (v : Verdict) → slice_get answers k ≡ Some v → receiver_after (received k) v ≡ received (k + 1)
  received-next k v at =
      ap (λ (d : Demand). let r : ReceiverState = record begun.receiver { demand = d } in r)
      (demand_after-append begun.receiver.demand (records_of (take k answers)) (accepted_by v)
      ∙ ap (λ rs. demand_after begun.receiver.demand rs) (sym (records_of-push (take k answers) v) ∙ ap records_of (sym (take-next k answers v at))))

  -- a send and a take of a lane
  record Goes (k m n number : ℕ) (log : LogState) : Type 0 where
    pub track_is : after_take (after_send (so_far k)) ≡ so_far m
    pub entries_are : (log_after log number (after_send (so_far k))).entries ≡ log.entries ++ named number (slice_get (groups_over begun) n)

  none_after : (n number : ℕ) (log : LogState) → length begun.wire ≤ n → log.entries ≡ log.entries ++ named number (slice_get (groups_over begun) n)
  none_after n number log le =
      let long : length (groups_over begun) ≤ n = omega (arith, le, length-over) in
      sym (append-nil log.entries) ∙ ap (λ o. log.entries ++ named number o) (sym (slice_get_past (groups_over begun) n long))

  goes_frame : (k number : ℕ) (log : LogState) (frame : List ℕ) → 1 ≤ begun.lane.capacity → slice_get begun.wire k ≡ Some frame → Goes k (k + 1) k number log
  goes_frame k number log frame room at =
      let wire = begun.wire in
      let capacity = begun.lane.capacity in
      let nows = begun.nows in
      let r = received k in
      let lt : k < length wire = slice_get_within wire k frame at in
      let places : ArePlaces wire k k = record { taken_sent = omega arith; in_range = omega (arith, lt) } in
      let after_places : ArePlaces wire (k + 1) k = record { taken_sent = omega arith; in_range = omega (arith, lt) } in
      let sent = send_moves wire capacity k k r nows places (omega (arith, lt)) (omega (arith, room)) in
      let v = verdict_by r (moment_at nows k) frame in
      let took = take_frame wire capacity (k + 1) k r nows log (noted log number v) number frame (receiver_after r v) after_places (omega arith) at refl refl in
      record {
        track_is = ap after_take (sym sent.after) ∙ (sym took.after ∙ ap (λ x. track_at wire capacity (k + 1) (k + 1) x nows) (received-next k v (answer-at k frame at)));
        entries_are = ap (λ t. (log_after log number t).entries) (sym sent.after) ∙ (ap (λ (l : LogState). l.entries) (sym took.log_is) ∙ ap (λ z. log.entries ++ z) (named-verdict number answers k v (answer-at k frame at)));
      }

  goes_end : (k number : ℕ) (log : LogState) → 1 ≤ begun.lane.capacity → length begun.wire ≡ k → Goes k (k + 1) k number log
  goes_end k number log room is =
      let wire = begun.wire in
      let capacity = begun.lane.capacity in
      let nows = begun.nows in
      let r = received k in
      let places : ArePlaces wire k k = record { taken_sent = omega arith; in_range = omega (arith, is) } in
      let after_places : ArePlaces wire (k + 1) k = record { taken_sent = omega arith; in_range = omega (arith, is) } in
      let sent = send_moves wire capacity k k r nows places (omega (arith, is)) (omega (arith, room)) in
      let none : slice_get wire k ≡ None = slice_get_past wire k (omega (arith, is)) in
      let took = take_end wire capacity (k + 1) k r nows log (ended_at log number) number after_places (omega arith) none refl in
      let long : length answers ≡ k = length-answers ∙ is in
      let all : take k answers ≡ take (k + 1) answers = take_all k answers (omega (arith, long)) ∙ sym (take_all (k + 1) answers (omega (arith, long))) in
      let same : r ≡ received (k + 1) = ap (λ (z : List Verdict). let x : ReceiverState = record begun.receiver { demand = demand_after begun.receiver.demand (records_of z) } in x) all in
      record {
        track_is = ap after_take (sym sent.after) ∙ (sym took.after ∙ ap (λ x. track_at wire capacity (k + 1) (k + 1) x nows) same);
        entries_are = ap (λ t. (log_after log number t).entries) (sym sent.after) ∙ (ap (λ (l : LogState). l.entries) (sym took.log_is) ∙ none_after k number log (omega (arith, is)));
      }

  goes_over : (k n number : ℕ) (log : LogState) → length begun.wire + 1 ≡ k → k ≤ n → Goes k k n number log
  goes_over k n number log is le =
      let wire = begun.wire in
      let capacity = begun.lane.capacity in
      let r = received k in
      let places : ArePlaces wire k k = record { taken_sent = omega arith; in_range = omega (arith, is) } in
      let sent = send_over wire capacity k k r begun.nows (omega (arith, is)) in
      let took = take_none wire capacity k k r begun.nows log number places (omega arith) in
      record {
        track_is = ap after_take (sym sent.after) ∙ sym took.after;
        entries_are = ap (λ t. (log_after log number t).entries) (sym sent.after) ∙ (ap (λ (l : LogState). l.entries) (sym took.log_is) ∙ none_after n number log (omega (arith, is, le)));
      }

  abbrev pub at_round : ℕ → TrackState
  at_round n = so_far (min n (length begun.wire + 1))

  -- what one round does to the lane
  pub record RoundGoes (n number : ℕ) (log : LogState) : Type 0 where
    pub track_is : after_take (after_send (at_round n)) ≡ at_round (suc n)
    pub entries_are : (log_after log number (after_send (at_round n))).entries ≡ log.entries ++ named number (slice_get (groups_over begun) n)

  by_count : (n k m number : ℕ) (log : LogState) → k ≡ min n (length begun.wire + 1) → m ≡ min (suc n) (length begun.wire + 1) → Goes k m n number log → RoundGoes n number log
  by_count n k m number log k-is m-is goes = record {
    track_is = ap (λ j. after_take (after_send (so_far j))) (sym k-is) ∙ (goes.track_is ∙ ap so_far m-is);
    entries_are = ap (λ j. (log_after log number (after_send (so_far j))).entries) (sym k-is) ∙ goes.entries_are;
  }

  goes_by : (n number : ℕ) (log : LogState) → 1 ≤ begun.lane.capacity → (o : Option (List ℕ)) → slice_get begun.wire n ≡ o → RoundGoes n number log
  goes_by n number log room (Some frame) at =
      let lt : n < length begun.wire = slice_get_within begun.wire n frame at in
      by_count n n (n + 1) number log (omega (arith, lt)) (omega (arith, lt)) (goes_frame n number log frame room at)
  goes_by n number log room None at =
      let over : length begun.wire ≤ n = past begun.wire n at in
      elim (same_or_over (length begun.wire) n over) [
        | inl same ↦ by_count n n (n + 1) number log (omega (arith, same)) (omega (arith, same)) (goes_end n number log room same)
        | inr more ↦ let k : ℕ = length begun.wire + 1 in
            by_count n k k number log (omega (arith, more)) (omega (arith, more)) (goes_over k n number log refl (omega (arith, more)))
      ]

  pub round_goes : (n number : ℕ) (log : LogState) → 1 ≤ begun.lane.capacity → RoundGoes n number log
  round_goes n number log room = goes_by n number log room (slice_get begun.wire n) refl

  -- before the first round
  at_round-zero : begun ≡ fresh begun.wire begun.receiver begun.nows begun.lane.capacity → at_round 0 ≡ begun
  at_round-zero is =
      let same : received 0 ≡ begun.receiver = ap (λ (d : Demand). let r : ReceiverState = record begun.receiver { demand = d } in r) (demand_after-nil begun.receiver.demand) in
      let none : min 0 (length begun.wire + 1) ≡ 0 = omega arith in
      ap so_far none ∙ (ap (λ r. track_at begun.wire begun.lane.capacity 0 0 r begun.nows) same ∙ sym is)

-- ---- all lanes

abbrev pub IsOpen : TrackState → Type 0
IsOpen track = 1 ≤ track.lane.capacity

abbrev pub AreOpen : List TrackState → Type 0
AreOpen begun = All IsOpen begun

tracks_go : (n : ℕ) (begun : List TrackState) (log : LogState) → AreOpen begun → map stepped (map (λ track. at_round track n) begun) ≡ map (λ track. at_round track (suc n)) begun
tracks_go n [] log h = refl
tracks_go n (track ∷ begun) log h =
    ap₂ (λ t ts. t ∷ ts) (round_goes track n 0 log (All-head IsOpen track begun h)).track_is (tracks_go n begun log (All-tail IsOpen track begun h))

entries_go : (n lane : ℕ) (begun : List TrackState) (log : LogState) → AreOpen begun
    → (log_round lane log (map (λ track. at_round track n) begun)).entries ≡ log.entries ++ round n lane (map groups_over begun)
entries_go n lane [] log h = sym (append-nil log.entries)
entries_go n lane (track ∷ begun) log h =
    let log-now : LogState = log_after log lane (after_send (at_round track n)) in
    entries_go n (lane + 1) begun log-now (All-tail IsOpen track begun h)
    ∙ (ap (λ z. z ++ round n (lane + 1) (map groups_over begun)) (round_goes track n lane log (All-head IsOpen track begun h)).entries_are
    ∙ append_assoc log.entries (named lane (slice_get (groups_over track) n)) (round n (lane + 1) (map groups_over begun)))

-- so many rounds were served of these lanes
pub record InRounds (begun : List TrackState) (n : ℕ) (relay : Relay) : Type 0 where
  pub tracks_are : relay.tracks ≡ map (λ track. at_round track n) begun
  pub entries_are : relay.log.entries ≡ rounds_below n (map groups_over begun)

pub one_round : (begun : List TrackState) (n : ℕ) (relay : Relay) → AreOpen begun → InRounds begun n relay → InRounds begun (suc n) (after relay (round_turns 0 (length begun)))
one_round begun n relay room h =
    let now : List TrackState = map (λ track. at_round track n) begun in
    let leaves : after relay (round_turns 0 (length begun)) ≡ relay_of (map stepped now) (log_round 0 relay.log now) relay.sents =
    ap (λ ts. after (relay_of ts relay.log relay.sents) (round_turns 0 (length begun))) h.tracks_are
    ∙ (ap (λ k. after (relay_of now relay.log relay.sents) (round_turns 0 k)) (sym (length-map begun (λ track. at_round track n)))
    ∙ round_leaves relay.sents [] now relay.log 0 refl) in
    record {
      tracks_are = ap (λ (r : Relay). r.tracks) leaves ∙ tracks_go n begun relay.log room;
      entries_are = ap (λ (r : Relay). r.log.entries) leaves ∙ (entries_go n 0 begun relay.log room ∙ ap (λ z. z ++ round n 0 (map groups_over begun)) h.entries_are);
    }

many_rounds : (m : ℕ) (begun : List TrackState) (n : ℕ) (relay : Relay) → AreOpen begun → InRounds begun n relay → InRounds begun (n + m) (after relay (rounds_turns m (length begun)))
many_rounds zero begun n relay room h = let e : n ≡ n + 0 = omega arith in subst (λ k. InRounds begun k relay) e h
many_rounds (suc m) begun n relay room h =
    let e : suc n + m ≡ n + suc m = omega arith in
    let first : List Turn = round_turns 0 (length begun) in
    let rest : List Turn = rounds_turns m (length begun) in
    let w = many_rounds m begun (suc n) (after relay first) room (one_round begun n relay room h) in
    subst (λ r. InRounds begun (n + suc m) r) (sym (after-append relay first rest)) (subst (λ k. InRounds begun k (after (after relay first) rest)) e w)

-- ---- from the first to the last

abbrev pub IsFresh : TrackState → Type 0
IsFresh track = track ≡ fresh track.wire track.receiver track.nows track.lane.capacity

abbrev pub AreFresh : List TrackState → Type 0
AreFresh begun = All IsFresh begun

none_begun : (begun : List TrackState) → AreFresh begun → map (λ track. at_round track 0) begun ≡ begun
none_begun [] h = refl
none_begun (track ∷ begun) h =
    ap₂ (λ t ts. t ∷ ts) (at_round-zero track (All-head IsFresh track begun h)) (none_begun begun (All-tail IsFresh track begun h))

pub no_rounds : (relay : Relay) → AreFresh relay.tracks → relay.log.entries ≡ [] → InRounds relay.tracks 0 relay
no_rounds relay are none = record { tracks_are = sym (none_begun relay.tracks are); entries_are = none }

-- no lane has more groups than its wire has frames
short_lanes : (begun : List TrackState) (n : ℕ) → longest_wire begun ≤ n → NoneLonger n (map groups_over begun)
short_lanes [] n le = All-nil (λ (groups : List (List Event)). length groups ≤ n)
short_lanes (track ∷ begun) n le =
    All-cons (λ (groups : List (List Event)). length groups ≤ n) (groups_over track) (map groups_over begun) (omega (arith, le, length-over track)) (short_lanes begun n (omega (arith, le)))

-- what the rounds of all frames and of the ends leave
finished : (relay : Relay) → AreOpen relay.tracks → AreFresh relay.tracks → relay.log.entries ≡ [] → (after relay (finishing relay.tracks)).log.entries ≡ whole_log relay
finished relay room are none =
    let n : ℕ = longest_wire relay.tracks + 1 in
    let all = many_rounds n relay.tracks 0 relay room (no_rounds relay are none) in
    let m : 0 + n ≡ n = omega arith in
    let w : InRounds relay.tracks n (after relay (finishing relay.tracks)) = subst (λ k. InRounds relay.tracks k (after relay (finishing relay.tracks))) m all in
    w.entries_are ∙ sym (rounds-from_below n (map groups_over relay.tracks) (short_lanes relay.tracks n (omega arith)))

pub begun_fresh : (capacity : ℕ) (lanes : List Ends) (tracks : List TrackState) (sents : List Sent) → AreBegun capacity lanes tracks sents → 1 ≤ capacity → AreFresh tracks × AreOpen tracks
begun_fresh capacity [] [] [] h room = (All-nil IsFresh, All-nil IsOpen)
begun_fresh capacity [] [] (s ∷ sents) h room = absurd h
begun_fresh capacity [] (t ∷ tracks) sents h room = absurd h
begun_fresh capacity (e ∷ lanes) [] sents h room = absurd h
begun_fresh capacity (e ∷ lanes) (t ∷ tracks) [] h room = absurd h
begun_fresh capacity (e ∷ lanes) (t ∷ tracks) (s ∷ sents) h room =
    let rest = begun_fresh capacity lanes tracks sents h.1 room in
    let is = h.0.is_fresh in
    let first : IsFresh t = subst IsFresh (sym is) refl in
    let open_is : IsOpen t = subst IsOpen (sym is) room in
    (All-cons IsFresh t tracks first rest.0, All-cons IsOpen t tracks open_is rest.1)

from_start : (lanes : List Ends) (capacity : ℕ) (relay : Relay) → 1 ≤ capacity → HasTurned lanes capacity [] relay → (after relay (finishing relay.tracks)).log.entries ≡ whole_log relay
from_start lanes capacity relay room h =
    let begun = begun_fresh capacity lanes h.begun.tracks h.begun.sents h.start.lanes_are room in
    let P : Relay → Type 0 = λ r. (after r (finishing r.tracks)).log.entries ≡ whole_log r in
    subst P (sym h.left) (finished h.begun begun.1 begun.0 (ap (λ (l : LogState). l.entries) h.start.log))

-- and a part of the turns leaves a part of the entries
front_of : (relay : Relay) (done all : List Turn) → IsPrefix done all → IsPrefix (after relay done).log.entries (after relay all).log.entries
front_of relay done all p =
    let e : after (after relay done) p.0 ≡ after relay all = sym (after-append relay done p.0) ∙ ap (λ ts. after relay ts) (sym p.1) in
    subst (λ (r : Relay). IsPrefix (after relay done).log.entries r.log.entries) e (entries_grow (after relay done) p.0)

module _ (lanes : List Ends) (capacity : ℕ) (relay now : Relay) (room : 1 ≤ capacity) (fresh_is : HasTurned lanes capacity [] relay) where
  pub front_from : IsPartOf (finishing relay.tracks) relay now → IsPrefix now.log.entries (whole_log relay)
  front_from part =
      let all = finishing relay.tracks in
      let whole : (after relay all).log.entries ≡ whole_log relay = from_start lanes capacity relay room fresh_is in
      let P : Relay → Type 0 = λ r. IsPrefix r.log.entries (whole_log relay) in
      subst P (sym part.2) (subst (λ es. IsPrefix (after relay part.0).log.entries es) whole (front_of relay part.0 all part.1))

  pub entries_from : now ≡ after relay (finishing relay.tracks) → now.log.entries ≡ whole_log relay
  entries_from is = ap (λ (r : Relay). r.log.entries) is ∙ from_start lanes capacity relay room fresh_is
