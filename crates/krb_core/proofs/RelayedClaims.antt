-- What is claimed of each lane of a relay that was turned.
use Rattle.std.proofs.Common.{◌≡◌, ◌≢◌, ℕ, zero, suc, ◌≤◌, ◌<◌, true, false, List, [], ◌∷◌, ◌++◌, length, set, take, drop, slice_get, Option, Some, None, Result, Ok, Err, inl, inr, refl, sym, ap, ap₂, ◌∙◌, arith, append_assoc, append-nil}
use Rattle.std.specs.Prelude.{OnOk, OnErr}
use Rattle.std.proofs.lemmas.List.{take_all, take-append-drop}
use Rattle.std.proofs.lemmas.List.Concat.{flat_map-append}
use Rattle.std.proofs.Math.Seq.{take-append_seam}
use Rattle.std.proofs.lemmas.Bool.Decides.{leb_tells, eqb_tells}
use Rattle.std.proofs.lemmas.Option.{slice_get_within}
use Rattle.krb_base.specs.Prefix.{IsPrefix}
use Rattle.krb_base.specs.Lane.{Item, Lane, Frame, End, empty, has_end, frames, after_event}
use Rattle.krb_base.specs.Lane as machine
use Rattle.krb_base.proofs.LaneLemmas.{frames-append, state_whole}
use Rattle.krb_base.proofs.LaneLemmas as lane_lemmas
use Rattle.krb_core.specs.declared.turn.Turn.{Turn}
use Rattle.krb_core.specs.declared.turn.Turn.TheVariants.{Send, Take}
use Rattle.krb_peers.specs.LogState.{LogState}
use Rattle.krb_peers.specs.Plan.{wire}
use Rattle.krb_peers.specs.Sender.{sealed_texts, AreFrames}
use Rattle.krb_peers.specs.Sender as sender
use Rattle.krb_peers.specs.Run.{IsRun}
use Rattle.krb_peers.specs.Wire.{TakesAll}
use Rattle.krb_core.specs.Track.{TrackState, verdict_now, log_then}
use Rattle.krb_peers.specs.Logged.{entries_by}
use Rattle.krb_core.specs.TrackPlaces.{items_of}
use Rattle.krb_peers.specs.declared.sending.Sent.{Sent}
use Rattle.krb_peers.specs.Ends.{Ends, sents_of}
use Rattle.krb_core.specs.Start.{AreBegun}
use Rattle.krb_core.specs.Stepped.{Relay, lane_of, event_of, track_after, turned_at, turned, after}
use Rattle.krb_core.specs.Relayed.{HasBegun, HasTurned, event_at, turned_events, Taking, taking_of, taking_at, takings, entries_in, run_of, IsLane, OfEachLane, HaveHeadline, GoesOn, KeepsHeadline}
use Rattle.krb_peers.specs.Log.{has_ended}
use Rattle.krb_peers.proofs.ClaimLemmas.{headline_of}
use Rattle.krb_core.proofs.TrackLemmas.{no_end}
use Rattle.krb_core.proofs.RelayedLemmas.{frames-take, Stands, stand_all, stand_begun, begun_at}

-- ---- the lane's state by the events of its turns

pub data Found {X : Type 0} (o : Option X) : Type 0 where
  here : (x : X) → o ≡ Some x → Found o

found_within : {X : Type 0} (xs : List X) (k : ℕ) → k < length xs → Found (slice_get xs k)
found_within [] k h = absurd (omega arith)
found_within (x ∷ xs) zero h = here x refl
found_within (x ∷ xs) (suc k) h = found_within xs k (omega arith)

get_set : {X : Type 0} (xs : List X) (k : ℕ) (x old : X) → slice_get xs k ≡ Some old → slice_get (set xs k x) k ≡ Some x
get_set [] k x old h = absurd (let e = h in cc)
get_set (y ∷ xs) zero x old h = refl
get_set (y ∷ xs) (suc k) x old h = get_set xs k x old h

get_set_other : {X : Type 0} (xs : List X) (k j : ℕ) (x : X) → k ≢ j → slice_get (set xs k x) j ≡ slice_get xs j
get_set_other [] k j x h = refl
get_set_other (y ∷ xs) zero zero x h = absurd (h refl)
get_set_other (y ∷ xs) zero (suc j) x h = refl
get_set_other (y ∷ xs) (suc k) zero x h = refl
get_set_other (y ∷ xs) (suc k) (suc j) x h = get_set_other xs k j x (λ e. h (ap suc e))

-- a lane of a relay, which these events left of one
pub record IsLeft (tracks : List TrackState) (lane : ℕ) (was : Lane (List ℕ)) (events : List (machine.Event (List ℕ))) : Type 0 where
  pub track : TrackState
  pub at : slice_get tracks lane ≡ Some track
  pub left : track.lane ≡ machine.after was events

after_lane : (turn : Turn) (track : TrackState) → (track_after turn track).lane ≡ after_event track.lane (event_of turn track)
after_lane (Send number) track = refl
after_lane (Take number) track = refl

left_at : (relay : Relay) (turn : Turn) (found : Option TrackState) (lane : ℕ) (track : TrackState) → slice_get relay.tracks (lane_of turn) ≡ found → slice_get relay.tracks lane ≡ Some track
    → IsLeft (turned_at relay turn found).tracks lane track.lane (event_at lane turn found)
left_at relay turn None lane track at is = record { track = track; at = is; left = refl }
left_at relay turn (Some old) lane track at is =
    elim (eqb_tells (lane_of turn) lane) [
      | inl mine ↦
          let same : Some old ≡ Some track = sym at ∙ (ap (λ k. slice_get relay.tracks k) mine.1 ∙ is) in
          let same-t : old ≡ track = cc in
          rw mine.0 (record {
            track = track_after turn old;
            at = ap (λ k. slice_get (set relay.tracks (lane_of turn) (track_after turn old)) k) (sym mine.1) ∙ get_set relay.tracks (lane_of turn) (track_after turn old) old at;
            left = after_lane turn old ∙ ap (λ (l : Lane (List ℕ)). after_event l (event_of turn old)) (ap (λ (t : TrackState). t.lane) same-t);
          })
      | inr apart ↦ rw apart.0 (record {
        track = track;
        at = get_set_other relay.tracks (lane_of turn) lane (track_after turn old) apart.1 ∙ is;
        left = refl;
      })
    ]

left_after : (turns : List Turn) (relay : Relay) (lane : ℕ) (track : TrackState) → slice_get relay.tracks lane ≡ Some track
    → IsLeft (after relay turns).tracks lane track.lane (turned_events lane relay turns)
left_after [] relay lane track is = record { track = track; at = is; left = refl }
left_after (turn ∷ turns) relay lane track is =
    let found = slice_get relay.tracks (lane_of turn) in
    let first = left_at relay turn found lane track refl is in
    let rest = left_after turns (turned relay turn) lane first.track first.at in
    let events = event_at lane turn found in
    let others = turned_events lane (turned relay turn) turns in
    record {
      track = rest.track;
      at = rest.at;
      left = rest.left ∙ (ap (λ (l : Lane (List ℕ)). machine.after l others) first.left ∙ sym (lane_lemmas.after-append track.lane events others));
    }

-- ---- the order of the entries

entries-append : (xs ys : List Taking) → entries_in (xs ++ ys) ≡ entries_in xs ++ entries_in ys
entries-append xs ys = flat_map-append (λ taking. entries_by taking.lane taking.verdict) xs ys

order_by : (log : LogState) (number : ℕ) (track : TrackState) (queue : List (Item (List ℕ))) → (log_then log number track queue).entries ≡ log.entries ++ entries_in (taking_of number track queue)
order_by log number track [] = sym (append-nil log.entries)
order_by log number track (Frame frame ∷ queue) = ap (λ l. log.entries ++ l) (sym (append-nil (entries_by number (verdict_now track frame))))
order_by log number track (End ∷ queue) = sym (append-nil log.entries)

order_at : (relay : Relay) (turn : Turn) (found : Option TrackState) → (turned_at relay turn found).log.entries ≡ relay.log.entries ++ entries_in (taking_at turn found)
order_at relay turn None = sym (append-nil relay.log.entries)
order_at relay (Send number) (Some track) = sym (append-nil relay.log.entries)
order_at relay (Take number) (Some track) = order_by relay.log number track track.lane.queue

order_after : (turns : List Turn) (relay : Relay) → (after relay turns).log.entries ≡ relay.log.entries ++ entries_in (takings relay turns)
order_after [] relay = sym (append-nil relay.log.entries)
order_after (turn ∷ turns) relay =
    let first = taking_at turn (slice_get relay.tracks (lane_of turn)) in
    let rest = takings (turned relay turn) turns in
    order_after turns (turned relay turn)
    ∙ (ap (λ l. l ++ entries_in rest) (order_at relay turn (slice_get relay.tracks (lane_of turn)))
    ∙ (append_assoc relay.log.entries (entries_in first) (entries_in rest) ∙ ap (λ l. relay.log.entries ++ l) (sym (entries-append first rest))))

-- ---- the claims

module _ (ends : Ends) (lane : ℕ) (track : TrackState) (log : LogState) (h : Stands ends lane track log) where
  abbrev pub took : List (List ℕ)
  took = frames track.lane.got

  sent_frames : frames track.lane.sent ≡ take (length track.lane.sent) track.wire
  sent_frames = ap frames h.sent ∙ frames-take track.wire (length track.lane.sent)

  -- what was taken begins the wire
  took_front : IsPrefix took track.wire
  took_front =
      let n = length track.lane.sent in
      let parts : take n track.wire ≡ took ++ frames track.lane.queue = sym sent_frames ∙ (ap frames h.state.linked ∙ frames-append track.lane.got track.lane.queue) in (
        frames track.lane.queue ++ drop n track.wire,
        sym (take-append-drop n track.wire) ∙ (ap (λ l. l ++ drop n track.wire) parts ∙ append_assoc took (frames track.lane.queue) (drop n track.wire)),
      )

  pub front_is : took ≡ take (length took) (wire h.emits.frames ends.source.plan)
  front_is =
      let front = took_front in
      sym (take-append_seam took front.0) ∙ (ap (λ l. take (length took) l) (sym front.1) ∙ ap (λ l. take (length took) l) h.emits.wire_is)

  pub is_run : IsRun (run_of ends track h.verdicts)
  is_run =
      let all = sender.records ends.source in
      let whole : take (length all) all ≡ all = take_all (length all) all (omega arith) in
      record {
        count = length all;
        frames = h.emits.frames;
        sealed = rw whole h.emits.sealed;
        n = length took;
        taken = front_is;
        judged = h.logged.judged;
      }

  -- where End was taken, all was
  pub takes_all : has_ended lane log ≡ true → TakesAll ends.source took
  takes_all ended =
      let n = length track.lane.sent in
      let got_end : has_end track.lane.got ≡ true = sym h.ended ∙ ended in
      let whole : track.lane.got ≡ track.lane.sent = state_whole track.lane h.state got_end in
      let sent_end : has_end (take n (items_of track.wire)) ≡ true = ap has_end (sym h.sent) ∙ (ap has_end (sym whole) ∙ got_end) in
      let over : length track.wire ≤ n = elim (leb_tells n (length track.wire)) [
        | inl within ↦ absurd (let e : true ≡ false = sym sent_end ∙ no_end track.wire n within.1 in cc)
        | inr beyond ↦ let b = beyond.1 in omega arith
      ] in
      record {
        frames = h.emits.frames;
        sealed = h.emits.sealed;
        whole = ap frames whole ∙ (sent_frames ∙ (take_all n track.wire over ∙ h.emits.wire_is));
        fits = h.emits.fits;
      }

-- ---- of a relay that was turned

module _ (lanes : List Ends) (capacity : ℕ) (turns : List Turn) (relay : Relay) (h : HasTurned lanes capacity turns relay) where
  found_track : (lane : ℕ) (ends : Ends) → slice_get lanes lane ≡ Some ends → Found (slice_get relay.tracks lane)
  found_track lane ends at =
      let within = slice_get_within lanes lane ends at in
      let count = (stand_all lanes capacity turns relay h).count in
      found_within relay.tracks lane (omega (arith, within, count))

  pub headline_holds : HaveHeadline lanes relay
  headline_holds lane ends at =
      elim (found_track lane ends at) [
        | here track is ↦
            let stands = (stand_all lanes capacity turns relay h).each lane ends track at is in (
              track,
              is,
              record {
                verdicts = stands.verdicts;
                logged = stands.logged;
                claims = headline_of (run_of ends track stands.verdicts) lane relay.log (is_run ends lane track relay.log stands) stands.logged.entries (takes_all ends lane track relay.log stands);
              },
            )
      ]

  pub ended_holds : OfEachLane lanes relay (λ ends lane track. has_ended lane relay.log ≡ has_end track.lane.got)
  ended_holds lane ends at =
      elim (found_track lane ends at) [
        | here track is ↦ (track, is, ((stand_all lanes capacity turns relay h).each lane ends track at is).ended)
      ]

  pub order_holds : relay.log.entries ≡ entries_in (takings h.begun turns)
  order_holds =
      ap (λ (r : Relay). r.log.entries) h.left
      ∙ (order_after turns h.begun ∙ ap (λ (l : LogState). l.entries ++ entries_in (takings h.begun turns)) h.start.log)

  -- the lane is what its events leave of the empty one
  pub lane_holds : OfEachLane lanes relay (λ ends lane track. IsLane ends capacity (turned_events lane h.begun turns) track)
  lane_holds lane ends at =
      let begins = h.start in
      let start = stand_begun lanes capacity h.begun begins in
      let within = slice_get_within lanes lane ends at in
      let count = start.count in
      elim (found_within h.begun.tracks lane (omega (arith, within, count))) [
        | here first is ↦
            let begun = (begun_at capacity lanes h.begun.tracks h.begun.sents begins.lanes_are lane ends first at is).1 in
            let left = left_after turns h.begun lane first is in
            let at-t : slice_get relay.tracks lane ≡ Some left.track = ap (λ r. slice_get r.tracks lane) h.left ∙ left.at in
            let stands = (stand_all lanes capacity turns relay h).each lane ends left.track at at-t in
            let events = turned_events lane h.begun turns in
            let is_left : left.track.lane ≡ machine.after (empty capacity) events = left.left ∙ ap (λ (t : TrackState). machine.after t.lane events) begun.is_fresh in
            let n = length left.track.lane.sent in (
              left.track,
              at-t,
              record {
                emits = stands.emits;
                sent = (drop n (items_of left.track.wire), sym (take-append-drop n (items_of left.track.wire)) ∙ ap (λ l. l ++ drop n (items_of left.track.wire)) (sym stands.sent));
                left = is_left;
                reached = (events, ap (λ (k : ℕ). machine.after (empty k) events) (ap (λ (l : Lane (List ℕ)). l.capacity) is_left ∙ lane_lemmas.after_capacity (empty capacity) events) ∙ sym is_left);
              },
            )
      ]

-- ---- turns on turns

pub turned_begun : (lanes : List Ends) (capacity : ℕ) (relay : Relay) → HasBegun lanes capacity relay → HasTurned lanes capacity [] relay
turned_begun lanes capacity relay h = record { begun = relay; start = h; left = refl }

pub after-append : (relay : Relay) (xs ys : List Turn) → after relay (xs ++ ys) ≡ after (after relay xs) ys
after-append relay [] ys = refl
after-append relay (x ∷ xs) ys = after-append (turned relay x) xs ys

-- these turns, after all that were before
pub goes_on : (old now : Relay) (turns : List Turn) → now ≡ after old turns → GoesOn old turns now
goes_on old now turns is lanes capacity before h = record {
  begun = h.begun;
  start = h.start;
  left = is ∙ (ap (λ r. after r turns) h.left ∙ sym (after-append h.begun before turns));
}

pub keeps_headline : (old now : Relay) (turns : List Turn) → now ≡ after old turns → KeepsHeadline old now
keeps_headline old now turns is lanes capacity before h = headline_holds lanes capacity (before ++ turns) now (goes_on old now turns is lanes capacity before h)

-- of one turn, or of none where memory is wanting
pub goes_on_by : {X E : Type 0} (r : Result X E) (old now : Relay) (turn : Turn) → OnOk r (now ≡ turned old turn) → OnOk r (GoesOn old (turn ∷ []) now)
goes_on_by (Ok x) old now turn is = goes_on old now (turn ∷ []) is
goes_on_by (Err e) old now turn is = tt

pub keeps_headline_by : {X E : Type 0} (r : Result X E) (old now : Relay) (turn : Turn) → OnOk r (now ≡ turned old turn) → OnErr r (now ≡ old) → KeepsHeadline old now
keeps_headline_by (Ok x) old now turn is same = keeps_headline old now (turn ∷ []) is
keeps_headline_by (Err e) old now turn is same = keeps_headline old now [] same

-- ---- how much is sealed

sents_at : (relay : Relay) (turn : Turn) (found : Option TrackState) → (turned_at relay turn found).sents ≡ relay.sents
sents_at relay turn None = refl
sents_at relay turn (Some track) = refl

sents_after : (turns : List Turn) (relay : Relay) → (after relay turns).sents ≡ relay.sents
sents_after [] relay = refl
sents_after (turn ∷ turns) relay = sents_after turns (turned relay turn) ∙ sents_at relay turn (slice_get relay.tracks (lane_of turn))

sent_begun : (capacity : ℕ) (lanes : List Ends) (tracks : List TrackState) (sents : List Sent) → AreBegun capacity lanes tracks sents → sents ≡ sents_of lanes
sent_begun capacity [] [] [] h = refl
sent_begun capacity [] [] (s ∷ ss) h = absurd h
sent_begun capacity [] (t ∷ ts) ss h = absurd h
sent_begun capacity (e ∷ es) [] ss h = absurd h
sent_begun capacity (e ∷ es) (t ∷ ts) [] h = absurd h
sent_begun capacity (e ∷ es) (t ∷ ts) (s ∷ ss) h = ap₂ (λ x xs. x ∷ xs) h.0.says (sent_begun capacity es ts ss h.1)

pub sents_hold : (lanes : List Ends) (capacity : ℕ) (turns : List Turn) (relay : Relay) → HasTurned lanes capacity turns relay → relay.sents ≡ sents_of lanes
sents_hold lanes capacity turns relay h =
    ap (λ (r : Relay). r.sents) h.left ∙ (sents_after turns h.begun ∙ sent_begun capacity lanes h.begun.tracks h.begun.sents h.start.lanes_are)
