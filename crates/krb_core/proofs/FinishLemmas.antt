-- What rounds leave of a relay, whatever was turned before.
use Rattle.std.proofs.Common.{◌≡◌, ℕ, zero, suc, ◌+◌, ◌-◌, ◌<◌, ◌≤◌, ◌⊎◌, min, max, true, List, [], ◌∷◌, ◌++◌, length, map, set, slice_get, Option, Some, None, inl, inr, refl, sym, ap, subst, ◌∙◌, arith}
use Rattle.std.specs.List.{All, list_all}
use Rattle.std.proofs.lemmas.List.Elements.{All-nil, All-cons, All-head, All-tail, All-set}
use Rattle.krb_base.specs.Lane.{Lane, has_end}
use Rattle.krb_peers.specs.declared.sending.Sent.{Sent}
use Rattle.krb_core.specs.declared.turn.Turn.{Turn}
use Rattle.krb_core.specs.declared.turn.Turn.TheVariants.{Send, Take}
use Rattle.krb_peers.specs.Log.{ended_at}
use Rattle.krb_peers.specs.LogState.{LogState}
use Rattle.krb_peers.specs.ReceiverState.{ReceiverState}
use Rattle.krb_peers.specs.Receiver.{receiver_after}
use Rattle.krb_peers.specs.Moments.{moment_at}
use Rattle.krb_peers.specs.Ends.{Ends}
use Rattle.krb_core.specs.Start.{AreBegun}
use Rattle.krb_core.specs.Relayed.{HasTurned}
use Rattle.krb_peers.specs.Log.{has_ended}
use Rattle.krb_core.specs.Track.{TrackState, after_send, after_take}
use Rattle.krb_peers.specs.Receiver.{verdict_by}
use Rattle.krb_peers.specs.Logged.{noted}
use Rattle.krb_core.specs.TrackPlaces.{lane_at, ArePlaces}
use Rattle.krb_core.specs.Stepped.{Relay, lane_of, turned_at, turned, after, is_done}
use Rattle.krb_core.specs.Finish.{round_turns, rounds_turns, longest_wire, finishing}
use Rattle.krb_core.proofs.TrackLemmas.{track_at, send_moves, send_full, send_over, take_frame, take_end, take_none, with_end}
use Rattle.krb_core.proofs.RelayedLemmas.{stand_all}
use Rattle.krb_core.proofs.RelayedClaims.{after-append, goes_on}
use Rattle.krb_peers.proofs.ListLemmas.{all_pass, there_is}
use Rattle.krb_core.proofs.TurnLemmas.{stepped, round_leaves, after_count}

-- ---- a round takes an item of each lane that isn't done

le_or_over : (a b : ℕ) → (a ≤ b) ⊎ (b < a)
le_or_over zero b = inl (omega arith)
le_or_over (suc a) zero = inr (omega arith)
le_or_over (suc a) (suc b) = elim (le_or_over a b) [ inl le ↦ inl (omega (arith, le)) | inr over ↦ inr (omega (arith, over)) ]

-- a lane of which at least so many items were taken
record HasTaken (capacity least : ℕ) (track : TrackState) : Type 0 where
  pub sent : ℕ
  pub taken : ℕ
  pub places : ArePlaces track.wire sent taken
  pub lane_is : track.lane ≡ lane_at capacity track.wire sent taken
  pub enough : min least (length track.wire + 1) ≤ taken

module _ (capacity : ℕ) (wire : List (List ℕ)) (receiver : ReceiverState) (nows : List ℕ) where
  -- what a send leaves
  record Sends (s t : ℕ) : Type 0 where
    pub sent : ℕ
    pub places : ArePlaces wire sent t
    pub leaves : after_send (track_at wire capacity s t receiver nows) ≡ track_at wire capacity sent t receiver nows
    pub queued : 1 ≤ capacity → t ≤ length wire → t < sent

  sends_by : (s t : ℕ) → ArePlaces wire s t → (s ≤ length wire) ⊎ (length wire < s) → (capacity ≤ s - t) ⊎ (s - t < capacity) → Sends s t
  sends_by s t h (inr over) any = record {
    sent = s;
    places = h;
    leaves = sym (send_over wire capacity s t receiver nows over).after;
    queued = λ room left. omega (arith, over, left);
  }
  sends_by s t h (inl le) (inl full) = record {
    sent = s;
    places = h;
    leaves = sym (send_full wire capacity s t receiver nows h full).after;
    queued = λ room left. omega (arith, full, room);
  }
  sends_by s t h (inl le) (inr room_left) =
      let before = h.taken_sent in
      record {
        sent = s + 1;
        places = record { taken_sent = omega (arith, before); in_range = omega (arith, le) };
        leaves = sym (send_moves wire capacity s t receiver nows h le room_left).after;
        queued = λ room left. omega (arith, before);
      }

  sends : (s t : ℕ) → ArePlaces wire s t → Sends s t
  sends s t h = sends_by s t h (le_or_over s (length wire)) (le_or_over capacity (s - t))

  -- what a take leaves
  record Takes (s t : ℕ) : Type 0 where
    pub taken : ℕ
    pub receiver_now : ReceiverState
    pub places : ArePlaces wire s taken
    pub leaves : after_take (track_at wire capacity s t receiver nows) ≡ track_at wire capacity s taken receiver_now nows
    pub kept : t ≤ taken
    pub more : t < s → t < taken

  empty_log : LogState
  empty_log = record { lanes = 0; entries = []; ended = [] }

  takes_by : (s t : ℕ) → ArePlaces wire s t → (s ≤ t) ⊎ (t < s) → (o : Option (List ℕ)) → slice_get wire t ≡ o → Takes s t
  takes_by s t h (inl none) o at = record {
    taken = t;
    receiver_now = receiver;
    places = h;
    leaves = sym (take_none wire capacity s t receiver nows empty_log 0 h none).after;
    kept = omega arith;
    more = λ lt. absurd (omega (arith, lt, none));
  }
  takes_by s t h (inr lt) (Some frame) at =
      let range = h.in_range in
      let r : ReceiverState = receiver_after receiver (verdict_by receiver (moment_at nows t) frame) in
      let log : LogState = noted empty_log 0 (verdict_by receiver (moment_at nows t) frame) in
      record {
        taken = t + 1;
        receiver_now = r;
        places = record { taken_sent = omega (arith, lt); in_range = range };
        leaves = sym (take_frame wire capacity s t receiver nows empty_log log 0 frame r h lt at refl refl).after;
        kept = omega arith;
        more = λ _. omega arith;
      }
  takes_by s t h (inr lt) None at =
      let range = h.in_range in
      record {
        taken = t + 1;
        receiver_now = receiver;
        places = record { taken_sent = omega (arith, lt); in_range = range };
        leaves = sym (take_end wire capacity s t receiver nows empty_log (ended_at empty_log 0) 0 h lt at refl).after;
        kept = omega arith;
        more = λ _. omega arith;
      }

  takes : (s t : ℕ) → ArePlaces wire s t → Takes s t
  takes s t h = takes_by s t h (le_or_over s t) (slice_get wire t) refl

module _ (capacity least : ℕ) (track : TrackState) (h : HasTaken capacity least track) where
  abbrev placed : TrackState
  placed = track_at track.wire capacity h.sent h.taken track.receiver track.nows

  placed_is : track ≡ placed
  placed_is = ap (λ (l : Lane (List ℕ)). let t : TrackState = record track { lane = l } in t) h.lane_is

  send_keeps : HasTaken capacity least (after_send track)
  send_keeps =
      let w = sends capacity track.wire track.receiver track.nows h.sent h.taken h.places in
      let enough = h.enough in
      let now : HasTaken capacity least (track_at track.wire capacity w.sent h.taken track.receiver track.nows) =
      record { sent = w.sent; taken = h.taken; places = w.places; lane_is = refl; enough = enough } in
      subst (HasTaken capacity least) (sym (ap after_send placed_is ∙ w.leaves)) now

  take_keeps : HasTaken capacity least (after_take track)
  take_keeps =
      let w = takes capacity track.wire track.receiver track.nows h.sent h.taken h.places in
      let enough = h.enough in
      let now : HasTaken capacity least (track_at track.wire capacity h.sent w.taken w.receiver_now track.nows) =
      record { sent = h.sent; taken = w.taken; places = w.places; lane_is = refl; enough = omega (arith, enough, w.kept) } in
      subst (HasTaken capacity least) (sym (ap after_take placed_is ∙ w.leaves)) now

  -- a send and a take take one item more, where there is one
  both_go : 1 ≤ capacity → HasTaken capacity (suc least) (stepped track)
  both_go room =
      let w = sends capacity track.wire track.receiver track.nows h.sent h.taken h.places in
      let v = takes capacity track.wire track.receiver track.nows w.sent h.taken w.places in
      let enough = h.enough in
      let leaves : stepped track ≡ track_at track.wire capacity w.sent v.taken v.receiver_now track.nows =
      ap after_take (ap after_send placed_is ∙ w.leaves) ∙ v.leaves in
      let more : min (suc least) (length track.wire + 1) ≤ v.taken =
      elim (le_or_over h.taken (length track.wire)) [
        | inl left ↦ let lt = v.more (w.queued room left) in omega (arith, lt, enough)
        | inr over ↦ let kept = v.kept in omega (arith, kept, over)
      ] in
      let now : HasTaken capacity (suc least) (track_at track.wire capacity w.sent v.taken v.receiver_now track.nows) =
      record { sent = w.sent; taken = v.taken; places = v.places; lane_is = refl; enough = more } in
      subst (HasTaken capacity (suc least)) (sym leaves) now

  taken_all : length track.wire < least → has_end track.lane.got ≡ true
  taken_all lt =
      let enough = h.enough in
      ap (λ (l : Lane (List ℕ)). has_end l.got) h.lane_is ∙ with_end track.wire h.taken (omega (arith, enough, lt))

-- of each lane at least so many items were taken
abbrev AllTaken : ℕ → ℕ → List TrackState → Type 0
AllTaken capacity least tracks = All (HasTaken capacity least) tracks

round_tracks : (relay : Relay) → (after relay (round_turns 0 (length relay.tracks))).tracks ≡ map stepped relay.tracks
round_tracks relay = ap (λ (r : Relay). r.tracks) (round_leaves relay.sents [] relay.tracks relay.log 0 refl)

go_on : (capacity least : ℕ) (tracks : List TrackState) → 1 ≤ capacity → AllTaken capacity least tracks → AllTaken capacity (suc least) (map stepped tracks)
go_on capacity least [] room h = All-nil (HasTaken capacity (suc least))
go_on capacity least (track ∷ tracks) room h =
    All-cons (HasTaken capacity (suc least)) (stepped track) (map stepped tracks)
    (both_go capacity least track (All-head (HasTaken capacity least) track tracks h) room)
    (go_on capacity least tracks room (All-tail (HasTaken capacity least) track tracks h))

rounds_take : (m capacity least count : ℕ) (relay : Relay) → 1 ≤ capacity → length relay.tracks ≡ count → AllTaken capacity least relay.tracks → AllTaken capacity (least + m) (after relay (rounds_turns m count)).tracks
rounds_take zero capacity least count relay room same h = let e : least ≡ least + 0 = omega arith in subst (λ k. AllTaken capacity k relay.tracks) e h
rounds_take (suc m) capacity least count relay room same h =
    let first : List Turn = round_turns 0 count in
    let rest : List Turn = rounds_turns m count in
    let now : Relay = after relay first in
    let tracks_are : now.tracks ≡ map stepped relay.tracks = ap (λ n. (after relay (round_turns 0 n)).tracks) (sym same) ∙ round_tracks relay in
    let one : AllTaken capacity (suc least) now.tracks = subst (λ ts. AllTaken capacity (suc least) ts) (sym tracks_are) (go_on capacity least relay.tracks room h) in
    let e : suc least + m ≡ least + suc m = omega arith in
    let w = rounds_take m capacity (suc least) count now room (after_count relay first ∙ same) one in
    subst (λ (r : Relay). AllTaken capacity (least + suc m) r.tracks) (sym (after-append relay first rest)) (subst (λ k. AllTaken capacity k (after now rest).tracks) e w)

all_at : {X : Type 0} (P : X → Type 0) (xs : List X) (k : ℕ) (x : X) → slice_get xs k ≡ Some x → All P xs → P x
all_at P [] k x at h = absurd (let e = at in cc)
all_at P (y ∷ xs) zero x at h = subst P (let e : y ≡ x = (let f = at in cc) in e) (All-head P y xs h)
all_at P (y ∷ xs) (suc k) x at h = all_at P xs k x at (All-tail P y xs h)

-- no turn puts an item back
turn_keeps : (capacity : ℕ) (relay : Relay) (turn : Turn) (o : Option TrackState) → slice_get relay.tracks (lane_of turn) ≡ o → AllTaken capacity 0 relay.tracks → AllTaken capacity 0 (turned_at relay turn o).tracks
turn_keeps capacity relay turn None at h = h
turn_keeps capacity relay (Send lane) (Some track) at h =
    All-set (HasTaken capacity 0) relay.tracks lane (after_send track) (send_keeps capacity 0 track (all_at (HasTaken capacity 0) relay.tracks lane track at h)) h
turn_keeps capacity relay (Take lane) (Some track) at h =
    All-set (HasTaken capacity 0) relay.tracks lane (after_take track) (take_keeps capacity 0 track (all_at (HasTaken capacity 0) relay.tracks lane track at h)) h

turns_keep : (capacity : ℕ) (relay : Relay) (turns : List Turn) → AllTaken capacity 0 relay.tracks → AllTaken capacity 0 (after relay turns).tracks
turns_keep capacity relay [] h = h
turns_keep capacity relay (turn ∷ turns) h = turns_keep capacity (turned relay turn) turns (turn_keeps capacity relay turn (slice_get relay.tracks (lane_of turn)) refl h)

begun_taken : (capacity : ℕ) (lanes : List Ends) (tracks : List TrackState) (sents : List Sent) → AreBegun capacity lanes tracks sents → AllTaken capacity 0 tracks
begun_taken capacity [] [] [] h = All-nil (HasTaken capacity 0)
begun_taken capacity [] [] (s ∷ sents) h = absurd h
begun_taken capacity [] (t ∷ tracks) sents h = absurd h
begun_taken capacity (e ∷ lanes) [] sents h = absurd h
begun_taken capacity (e ∷ lanes) (t ∷ tracks) [] h = absurd h
begun_taken capacity (e ∷ lanes) (t ∷ tracks) (s ∷ sents) h =
    let here : HasTaken capacity 0 t = record {
      sent = 0;
      taken = 0;
      places = record { taken_sent = omega arith; in_range = omega arith };
      lane_is = ap (λ (x : TrackState). x.lane) h.0.is_fresh;
      enough = omega arith;
    } in
    All-cons (HasTaken capacity 0) t tracks here (begun_taken capacity lanes tracks sents h.1)

-- so after a round more than the longest wire has frames, all is taken
longest-set : (tracks : List TrackState) (k : ℕ) (old now : TrackState) → slice_get tracks k ≡ Some old → length now.wire ≡ length old.wire → longest_wire (set tracks k now) ≡ longest_wire tracks
longest-set [] k old now at same = refl
longest-set (track ∷ tracks) zero old now at same =
    let e : track ≡ old = (let f = at in cc) in
    ap (λ n. max n (longest_wire tracks)) (same ∙ ap (λ (t : TrackState). length t.wire) (sym e))
longest-set (track ∷ tracks) (suc k) old now at same = ap (λ n. max (length track.wire) n) (longest-set tracks k old now at same)

longest-turned : (relay : Relay) (turn : Turn) (o : Option TrackState) → slice_get relay.tracks (lane_of turn) ≡ o → longest_wire (turned_at relay turn o).tracks ≡ longest_wire relay.tracks
longest-turned relay turn None at = refl
longest-turned relay (Send lane) (Some track) at = longest-set relay.tracks lane track (after_send track) at refl
longest-turned relay (Take lane) (Some track) at = longest-set relay.tracks lane track (after_take track) at refl

longest-after : (relay : Relay) (turns : List Turn) → longest_wire (after relay turns).tracks ≡ longest_wire relay.tracks
longest-after relay [] = refl
longest-after relay (turn ∷ turns) = longest-after (turned relay turn) turns ∙ longest-turned relay turn (slice_get relay.tracks (lane_of turn)) refl

all_taken : (capacity least : ℕ) (tracks : List TrackState) → longest_wire tracks < least → AllTaken capacity least tracks → list_all (λ track. has_end track.lane.got) tracks ≡ true
all_taken capacity least [] lt h = refl
all_taken capacity least (track ∷ tracks) lt h =
    rw (taken_all capacity least track (All-head (HasTaken capacity least) track tracks h) (omega (arith, lt)))
    (all_taken capacity least tracks (omega (arith, lt)) (All-tail (HasTaken capacity least) track tracks h))

done_after : (lanes : List Ends) (capacity : ℕ) (before : List Turn) (relay : Relay) → 1 ≤ capacity → HasTurned lanes capacity before relay → is_done (after relay (finishing relay.tracks)) ≡ true
done_after lanes capacity before relay room h =
    let n : ℕ = longest_wire relay.tracks + 1 in
    let all : List Turn = finishing relay.tracks in
    let begun : AllTaken capacity 0 h.begun.tracks = begun_taken capacity lanes h.begun.tracks h.begun.sents h.start.lanes_are in
    let here : AllTaken capacity 0 relay.tracks = subst (λ (r : Relay). AllTaken capacity 0 r.tracks) (sym h.left) (turns_keep capacity h.begun before begun) in
    let taken : AllTaken capacity (0 + n) (after relay all).tracks = rounds_take n capacity 0 (length relay.tracks) relay room refl here in
    let lt : longest_wire (after relay all).tracks < 0 + n = omega (arith, longest-after relay all) in
    all_taken capacity (0 + n) (after relay all).tracks lt taken

-- ---- then every lane is noted as ended

all_ended : (lanes : List Ends) (capacity : ℕ) (before : List Turn) (relay : Relay) → HasTurned lanes capacity before relay → is_done relay ≡ true
    → (lane : ℕ) → lane < length relay.tracks → has_ended lane relay.log ≡ true
all_ended lanes capacity before relay h done lane lt =
    let stand = stand_all lanes capacity before relay h in
    let within : lane < length lanes = omega (arith, lt, stand.count) in
    let here = there_is lane relay.tracks lt in
    let ends = there_is lane lanes within in
    (stand.each lane ends.0 here.0 ends.1 here.1).ended ∙ all_pass (λ t. has_end t.lane.got) relay.tracks lane here.0 done here.1

module _ (lanes : List Ends) (capacity : ℕ) (before : List Turn) (relay now : Relay) (room : 1 ≤ capacity) (turned_is : HasTurned lanes capacity before relay) where
  pub done_from : now ≡ after relay (finishing relay.tracks) → is_done now ≡ true
  done_from is = ap is_done is ∙ done_after lanes capacity before relay room turned_is

  pub ended_from : now ≡ after relay (finishing relay.tracks) → (lane : ℕ) → lane < length relay.tracks → has_ended lane now.log ≡ true
  ended_from is lane lt =
      let all : List Turn = finishing relay.tracks in
      let count : length now.tracks ≡ length relay.tracks = ap (λ (r : Relay). length r.tracks) is ∙ after_count relay all in
      all_ended lanes capacity (before ++ all) now (goes_on relay now all is lanes capacity before turned_is) (done_from is) lane (omega (arith, lt, count))
