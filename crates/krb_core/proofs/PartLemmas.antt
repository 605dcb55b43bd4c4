-- What a part of the rounds leaves of a relay of which no turn was taken.
use Rattle.std.proofs.Common.{◌≡◌, ℕ, zero, suc, ◌+◌, ◌≤◌, ◌⊎◌, cond, min, Bool, true, false, List, [], ◌∷◌, ◌++◌, length, map, take, slice_get, Some, inl, inr, refl, sym, ap, ap₂, subst, ◌∙◌, arith, append-nil, append_assoc, length-append}
use Rattle.std.proofs.lemmas.List.{take-map, map-append}
use Rattle.std.proofs.lemmas.List.Elements.{All-head, All-tail}
use Rattle.krb_base.specs.Lane.{Item, frames, is_possible, moved}
use Rattle.krb_seal.specs.Opens.{OpenerState}
use Rattle.krb_peers.specs.declared.log.Event.{Event}
use Rattle.krb_peers.specs.declared.sending.Sent.{Sent}
use Rattle.krb_core.specs.declared.turn.Turn.{Turn}
use Rattle.krb_core.specs.declared.turn.Turn.TheVariants.{Send, Take}
use Rattle.krb_peers.specs.Demand.{Demand}
use Rattle.krb_peers.specs.LogState.{LogState}
use Rattle.krb_peers.specs.Plan.{wire}
use Rattle.krb_peers.specs.Moments.{moment_at}
use Rattle.krb_peers.specs.Order.{demand_after}
use Rattle.krb_peers.specs.Verdicts.{AllBytes, events_by, groups_of, accepted_by, verdict, verdicts}
use Rattle.krb_peers.specs.Ends.{Ends}
use Rattle.krb_core.specs.Start.{IsBegun, AreBegun}
use Rattle.krb_core.specs.Track.{TrackState, next_send, after_send, log_after}
use Rattle.krb_core.specs.Stepped.{Relay, turned, after}
use Rattle.krb_core.specs.Relayed.{HasTurned}
use Rattle.krb_peers.specs.Rounds.{named, round, rounds, rounds_below}
use Rattle.krb_core.specs.Finish.{round_turns, rounds_turns, longest_wire, finishing, groups_over}
use Rattle.krb_peers.specs.Run.{Run, IsRun, AreRuns}
use Rattle.krb_peers.specs.Whole.{EndsWhole, IsRelayed, rounds_of}
use Rattle.krb_peers.proofs.VerdictLemmas.{verdicts_follow}
use Rattle.krb_peers.proofs.RoundsLemmas.{fronts, cut, rounds-cut}
use Rattle.krb_core.proofs.RelayedLemmas.{frames-take, bytes_of_taken, Stands, stand_all}
use Rattle.krb_core.proofs.RelayedClaims.{is_run, front_is, takes_all, after-append, goes_on}
use Rattle.krb_core.proofs.SteppedLemmas.{relay_of}
use Rattle.krb_core.proofs.TurnLemmas.{stepped, lane_sent, lane_turned, IsPartOf}
use Rattle.krb_core.proofs.RoundsTurned.{at_round, round_goes, IsOpen, AreOpen, InRounds, one_round, no_rounds, begun_fresh}
use Rattle.krb_peers.proofs.WholeLemmas.{run_over, relayed_of}

-- ---- a part of a round

abbrev got_of : TrackState → List (Item (List ℕ))
got_of track = track.lane.got

got_by : (track : TrackState) (may : Bool) → (cond may (moved track.lane (next_send track)) track.lane).got ≡ track.lane.got
got_by track true = refl
got_by track false = refl

-- a send takes nothing
got_send : (track : TrackState) → got_of (after_send track) ≡ got_of track
got_send track = got_by track (is_possible track.lane (next_send track))

map-mid : {X Y : Type 0} (f : X → Y) (front back : List X) (x y : X) → f x ≡ f y → map f (front ++ x ∷ back) ≡ map f (front ++ y ∷ back)
map-mid f [] back x y h = ap (λ z. z ∷ map f back) h
map-mid f (z ∷ front) back x y h = ap (λ l. f z ∷ l) (map-mid f front back x y h)

abbrev at_all : ℕ → List TrackState → List TrackState
at_all n tracks = map (λ track. at_round track n) tracks

-- after the lanes that went before, some more went a round on, and the rest didn't
record InRound (n k : ℕ) (front back : List TrackState) (log : LogState) (now : Relay) : Type 0 where
  pub gone : List TrackState
  pub rest : List TrackState
  pub split : back ≡ gone ++ rest
  pub gots : map got_of now.tracks ≡ map got_of (front ++ (at_all (suc n) gone ++ at_all n rest))
  pub entries : now.log.entries ≡ log.entries ++ round n k (map groups_over gone)

none_went : (n k : ℕ) (front back : List TrackState) (log : LogState) (now : Relay) → map got_of now.tracks ≡ map got_of (front ++ at_all n back) → now.log.entries ≡ log.entries → InRound n k front back log now
none_went n k front back log now gots entries = record { gone = []; rest = back; split = refl; gots = gots; entries = entries ∙ sym (append-nil log.entries) }

module _ (n : ℕ) (sents : List Sent) where
  one_went : (k : ℕ) (front back : List TrackState) (track : TrackState) (log : LogState) (now : Relay) → 1 ≤ track.lane.capacity
      → InRound n (k + 1) (front ++ at_round track (suc n) ∷ []) back (log_after log k (after_send (at_round track n))) now → InRound n k front (track ∷ back) log now
  one_went k front back track log now room h = record {
    gone = track ∷ h.gone;
    rest = h.rest;
    split = ap (λ l. track ∷ l) h.split;
    gots = h.gots ∙ ap (map got_of) (append_assoc front (at_round track (suc n) ∷ []) (at_all (suc n) h.gone ++ at_all n h.rest));
    entries =
        h.entries
        ∙ (ap (λ l. l ++ round n (k + 1) (map groups_over h.gone)) (round_goes track n k log room).entries_are
        ∙ append_assoc log.entries (named k (slice_get (groups_over track) n)) (round n (k + 1) (map groups_over h.gone)));
  }

  -- a send and a take of the next lane
  both_went : (k : ℕ) (front back : List TrackState) (track : TrackState) (log : LogState) → k ≡ length front → 1 ≤ track.lane.capacity
      → turned (turned (relay_of (front ++ at_round track n ∷ at_all n back) log sents) (Send k)) (Take k)
      ≡ relay_of ((front ++ at_round track (suc n) ∷ []) ++ at_all n back) (log_after log k (after_send (at_round track n))) sents
  both_went k front back track log is room =
      let x : TrackState = at_round track n in
      let goes : stepped x ≡ at_round track (suc n) = (round_goes track n k log room).track_is in
      let P : ℕ → Type 0 = λ j. turned (turned (relay_of (front ++ x ∷ at_all n back) log sents) (Send j)) (Take j) ≡ relay_of (front ++ stepped x ∷ at_all n back) (log_after log j (after_send x)) sents in
      subst P (sym is) (lane_turned sents front (at_all n back) x log)
      ∙ (ap (λ (t : TrackState). relay_of (front ++ t ∷ at_all n back) (log_after log k (after_send x)) sents) goes
      ∙ ap (λ (ts : List TrackState). relay_of ts (log_after log k (after_send x)) sents) (sym (append_assoc front (at_round track (suc n) ∷ []) (at_all n back))))

  sent_only : (k : ℕ) (front back : List TrackState) (track : TrackState) (log : LogState) → k ≡ length front
      → turned (relay_of (front ++ at_round track n ∷ at_all n back) log sents) (Send k) ≡ relay_of (front ++ after_send (at_round track n) ∷ at_all n back) log sents
  sent_only k front back track log is =
      let x : TrackState = at_round track n in
      let P : ℕ → Type 0 = λ j. turned (relay_of (front ++ x ∷ at_all n back) log sents) (Send j) ≡ relay_of (front ++ after_send x ∷ at_all n back) log sents in
      subst P (sym is) (lane_sent sents front (at_all n back) x log)

  part_round : (back front : List TrackState) (k : ℕ) (log : LogState) (done left : List Turn) → k ≡ length front → AreOpen back → round_turns k (length back) ≡ done ++ left
      → InRound n k front back log (after (relay_of (front ++ at_all n back) log sents) done)
  part_round back front k log [] left is room h = none_went n k front back log (relay_of (front ++ at_all n back) log sents) refl refl
  part_round [] front k log (t ∷ done) left is room h = absurd (let e = h in cc)
  part_round (track ∷ back) front k log (t ∷ []) left is room h =
      let same : t ≡ Send k = (let e = h in cc) in
      let x : TrackState = at_round track n in
      let now : Relay = relay_of (front ++ after_send x ∷ at_all n back) log sents in
      let leaves : turned (relay_of (front ++ x ∷ at_all n back) log sents) t ≡ now =
      ap (λ (u : Turn). turned (relay_of (front ++ x ∷ at_all n back) log sents) u) same ∙ sent_only k front back track log is in
      subst (λ (r : Relay). InRound n k front (track ∷ back) log r) (sym leaves)
      (none_went n k front (track ∷ back) log now (map-mid got_of front (at_all n back) (after_send x) x (got_send x)) refl)
  part_round (track ∷ back) front k log (t ∷ u ∷ done) left is room h =
      let x : TrackState = at_round track n in
      let before : Relay = relay_of (front ++ x ∷ at_all n back) log sents in
      let open_is : 1 ≤ track.lane.capacity = All-head IsOpen track back room in
      let same-t : t ≡ Send k = (let e = h in cc) in
      let same-u : u ≡ Take k = (let e = h in cc) in
      let others : round_turns (k + 1) (length back) ≡ done ++ left = (let e = h in cc) in
      let long : k + 1 ≡ length (front ++ at_round track (suc n) ∷ []) = omega (arith, is, length-append front (at_round track (suc n) ∷ [])) in
      let log-now : LogState = log_after log k (after_send x) in
      let next = part_round back (front ++ at_round track (suc n) ∷ []) (k + 1) log-now done left long (All-tail IsOpen track back room) others in
      let leaves : turned (turned before t) u ≡ relay_of ((front ++ at_round track (suc n) ∷ []) ++ at_all n back) log-now sents =
      ap₂ (λ (a b : Turn). turned (turned before a) b) same-t same-u ∙ both_went k front back track log is open_is in
      subst (λ (r : Relay). InRound n k front (track ∷ back) log (after r done)) (sym leaves)
      (one_went k front back track log (after (relay_of ((front ++ at_round track (suc n) ∷ []) ++ at_all n back) log-now sents) done) open_is next)

-- ---- a part of all rounds

split_prefix : {X : Type 0} (xs ys ps rs : List X) → xs ++ ys ≡ ps ++ rs → ((r : List X) × (xs ≡ ps ++ r)) ⊎ ((q : List X) × (ps ≡ xs ++ q) × (ys ≡ q ++ rs))
split_prefix [] ys ps rs h = inr (ps, refl, h)
split_prefix (x ∷ xs) ys [] rs h = inl (x ∷ xs, refl)
split_prefix (x ∷ xs) ys (p ∷ ps) rs h =
    let same : x ≡ p = (let e = h in cc) in
    let others : xs ++ ys ≡ ps ++ rs = (let e = h in cc) in
    elim (split_prefix xs ys ps rs others) [
      | inl a ↦ inl (a.0, ap₂ (λ z zs. z ∷ zs) same a.1)
      | inr b ↦ inr (b.0, ap₂ (λ z zs. z ∷ zs) (sym same) b.1, b.2)
    ]

-- after so many rounds, one more of the first lanes
record InPart (begun : List TrackState) (now : Relay) : Type 0 where
  pub n : ℕ
  pub gone : List TrackState
  pub rest : List TrackState
  pub split : begun ≡ gone ++ rest
  pub gots : map got_of now.tracks ≡ map got_of (at_all (suc n) gone ++ at_all n rest)
  pub entries : now.log.entries ≡ rounds_below n (map groups_over begun) ++ round n 0 (map groups_over gone)

part_of_round : (begun : List TrackState) (n : ℕ) (relay : Relay) (done left : List Turn) → AreOpen begun → InRounds begun n relay → round_turns 0 (length begun) ≡ done ++ left → InPart begun (after relay done)
part_of_round begun n relay done left room h is =
    let w = part_round n relay.sents begun [] 0 relay.log done left refl room is in
    let same : relay_of (at_all n begun) relay.log relay.sents ≡ relay = ap (λ (ts : List TrackState). relay_of ts relay.log relay.sents) (sym h.tracks_are) in
    let found : InPart begun (after (relay_of (at_all n begun) relay.log relay.sents) done) = record {
      n = n;
      gone = w.gone;
      rest = w.rest;
      split = w.split;
      gots = w.gots;
      entries = w.entries ∙ ap (λ l. l ++ round n 0 (map groups_over w.gone)) h.entries_are;
    } in
    subst (λ (r : Relay). InPart begun (after r done)) same found

part_of_rounds : (m : ℕ) (begun : List TrackState) (n : ℕ) (relay : Relay) (done left : List Turn) → AreOpen begun → InRounds begun n relay → rounds_turns m (length begun) ≡ done ++ left → InPart begun (after relay done)
part_of_rounds zero begun n relay [] left room h is = record {
  n = n;
  gone = [];
  rest = begun;
  split = refl;
  gots = ap (map got_of) h.tracks_are;
  entries = h.entries_are ∙ sym (append-nil (rounds_below n (map groups_over begun)));
}
part_of_rounds zero begun n relay (t ∷ done) left room h is = absurd (let e = is in cc)
part_of_rounds (suc m) begun n relay done left room h is =
    let first : List Turn = round_turns 0 (length begun) in
    elim (split_prefix first (rounds_turns m (length begun)) done left is) [
      | inl a ↦ part_of_round begun n relay done a.0 room h a.1
      | inr b ↦
          let w = part_of_rounds m begun (suc n) (after relay first) b.0 left room (one_round begun n relay room h) b.2 in
          subst (λ (r : Relay). InPart begun r) (sym (ap (λ ts. after relay ts) b.1 ∙ after-append relay first b.0)) w
    ]

-- ---- what was taken of each lane

take-within : {X : Type 0} (n : ℕ) (xs : List X) → take (min n (length xs + 1)) xs ≡ take n xs
take-within zero xs = let e : min 0 (length xs + 1) ≡ 0 = omega arith in ap (λ k. take k xs) e
take-within (suc n) [] = let e : min (suc n) (0 + 1) ≡ suc 0 = omega arith in ap (λ k. take k []) e
take-within (suc n) (x ∷ xs) = let e : min (suc n) (suc (length xs) + 1) ≡ suc (min n (length xs + 1)) = omega arith in ap (λ k. take k (x ∷ xs)) e ∙ ap (λ l. x ∷ l) (take-within n xs)

-- a lane after so many rounds
frames-got : (track : TrackState) (n : ℕ) → frames (got_of (at_round track n)) ≡ take n track.wire
frames-got track n = frames-take track.wire (min n (length track.wire + 1)) ∙ take-within n track.wire

verdicts-take : (opener : OpenerState) (nows : List ℕ) (demand : Demand) (place n : ℕ) (frames : List (List ℕ)) → verdicts opener nows demand place (take n frames) ≡ take n (verdicts opener nows demand place frames)
verdicts-take opener nows demand place zero frames = refl
verdicts-take opener nows demand place (suc n) [] = refl
verdicts-take opener nows demand place (suc n) (g ∷ frames) =
    let now : ℕ = moment_at nows place in
    ap (λ z. verdict opener demand now g ∷ z) (verdicts-take opener nows (demand_after demand (accepted_by (verdict opener demand now g))) (place + 1) n frames)

abbrev runs_by : List Ends → List (List (Item (List ℕ))) → List Run
runs_by [] gots = []
runs_by (ends ∷ lanes) [] = []
runs_by (ends ∷ lanes) (got ∷ gots) = run_over ends (frames got) ∷ runs_by lanes gots

abbrev groups_in : Run → List (List Event)
groups_in run = groups_of run.verdicts

-- it brings so many groups of all
groups_one : (capacity n : ℕ) (ends : Ends) (track : TrackState) (sent : Sent) → IsBegun ends capacity track sent → groups_in (run_over ends (frames (got_of (at_round track n)))) ≡ take n (groups_over track)
groups_one capacity n ends track sent h =
    let start = ends.receiver.demand in
    let opener = ends.receiver.opener in
    ap (λ (took : List (List ℕ)). groups_in (run_over ends took)) (frames-got track n)
    ∙ (ap groups_of (verdicts-take opener ends.nows start 0 n track.wire)
    ∙ (sym (take-map events_by n (verdicts opener ends.nows start 0 track.wire)) ∙ ap (λ (t : TrackState). take n (groups_over t)) (sym h.is_fresh)))

groups_rest : (capacity n : ℕ) (lanes : List Ends) (rest : List TrackState) (sents : List Sent) → AreBegun capacity lanes rest sents
    → map groups_in (runs_by lanes (map got_of (at_all n rest))) ≡ fronts n (map groups_over rest)
groups_rest capacity n [] [] [] h = refl
groups_rest capacity n [] [] (s ∷ ss) h = absurd h
groups_rest capacity n [] (t ∷ ts) ss h = absurd h
groups_rest capacity n (e ∷ es) [] ss h = absurd h
groups_rest capacity n (e ∷ es) (t ∷ ts) [] h = absurd h
groups_rest capacity n (e ∷ es) (t ∷ ts) (s ∷ ss) h = ap₂ (λ x xs. x ∷ xs) (groups_one capacity n e t s h.0) (groups_rest capacity n es ts ss h.1)

groups_cut : (capacity n : ℕ) (lanes : List Ends) (gone rest : List TrackState) (sents : List Sent) → AreBegun capacity lanes (gone ++ rest) sents
    → map groups_in (runs_by lanes (map got_of (at_all (suc n) gone ++ at_all n rest))) ≡ cut n (map groups_over gone) (map groups_over rest)
groups_cut capacity n lanes [] rest sents h = groups_rest capacity n lanes rest sents h
groups_cut capacity n [] (t ∷ gone) rest sents h = absurd h
groups_cut capacity n (e ∷ es) (t ∷ gone) rest [] h = absurd h
groups_cut capacity n (e ∷ es) (t ∷ gone) rest (s ∷ ss) h = ap₂ (λ x xs. x ∷ xs) (groups_one capacity (suc n) e t s h.0) (groups_cut capacity n es gone rest ss h.1)

-- so the entries are the rounds of what was taken
entries_part : (capacity : ℕ) (lanes : List Ends) (begun : List TrackState) (sents : List Sent) (now : Relay) → AreBegun capacity lanes begun sents → InPart begun now
    → now.log.entries ≡ rounds_of (runs_by lanes (map got_of now.tracks))
entries_part capacity lanes begun sents now h part =
    let n : ℕ = part.n in
    let gone = map groups_over part.gone in
    let rest = map groups_over part.rest in
    let lists : map groups_over begun ≡ gone ++ rest = ap (map groups_over) part.split ∙ map-append groups_over part.gone part.rest in
    let here : AreBegun capacity lanes (part.gone ++ part.rest) sents = subst (λ (ts : List TrackState). AreBegun capacity lanes ts sents) part.split h in
    part.entries
    ∙ (ap (λ ls. rounds_below n ls ++ round n 0 gone) lists
    ∙ (rounds-cut n gone rest
    ∙ (ap rounds (sym (groups_cut capacity n lanes part.gone part.rest sents here)) ∙ ap (λ gots. rounds_of (runs_by lanes gots)) (sym part.gots))))

-- ---- what each lane has of it

abbrev runs_left : List Ends → List TrackState → List Run
runs_left [] tracks = []
runs_left (ends ∷ lanes) [] = []
runs_left (ends ∷ lanes) (track ∷ tracks) = run_over ends (frames (got_of track)) ∷ runs_left lanes tracks

runs_same : (lanes : List Ends) (tracks : List TrackState) → runs_by lanes (map got_of tracks) ≡ runs_left lanes tracks
runs_same [] tracks = refl
runs_same (ends ∷ lanes) [] = refl
runs_same (ends ∷ lanes) (track ∷ tracks) = ap (λ rs. run_over ends (frames (got_of track)) ∷ rs) (runs_same lanes tracks)

are_left : (lanes : List Ends) (tracks : List TrackState) → length tracks ≡ length lanes
    → ((lane : ℕ) (ends : Ends) (track : TrackState) → slice_get lanes lane ≡ Some ends → slice_get tracks lane ≡ Some track → IsRun (run_over ends (frames (got_of track))))
    → AreRuns lanes (runs_left lanes tracks)
are_left [] tracks count each = tt
are_left (ends ∷ lanes) [] count each = absurd (omega (arith, count))
are_left (ends ∷ lanes) (track ∷ tracks) count each =
    (refl, each 0 ends track refl refl, are_left lanes tracks (omega (arith, count)) (λ lane e t at-e at-t. each (suc lane) e t at-e at-t))

-- the lane of a run
record IsOf (lanes : List Ends) (tracks : List TrackState) (lane : ℕ) (run : Run) : Type 0 where
  pub ends : Ends
  pub track : TrackState
  pub ends_at : slice_get lanes lane ≡ Some ends
  pub track_at : slice_get tracks lane ≡ Some track
  pub run_is : run_over ends (frames (got_of track)) ≡ run

left_at : (lanes : List Ends) (tracks : List TrackState) (lane : ℕ) (run : Run) → slice_get (runs_left lanes tracks) lane ≡ Some run → IsOf lanes tracks lane run
left_at [] tracks lane run at = absurd (let e = at in cc)
left_at (ends ∷ lanes) [] lane run at = absurd (let e = at in cc)
left_at (ends ∷ lanes) (track ∷ tracks) zero run at = record {
  ends = ends;
  track = track;
  ends_at = refl;
  track_at = refl;
  run_is = (let e : run_over ends (frames (got_of track)) ≡ run = (let f = at in cc) in e);
}
left_at (ends ∷ lanes) (track ∷ tracks) (suc lane) run at =
    let w = left_at lanes tracks lane run at in
    record { ends = w.ends; track = w.track; ends_at = w.ends_at; track_at = w.track_at; run_is = w.run_is }

-- what was taken of a wire is a front of it
front_of : (ends : Ends) (lane : ℕ) (track : TrackState) (log : LogState) → Stands ends lane track log → IsRun (run_over ends (frames (got_of track)))
front_of ends lane track log h =
    let run = is_run ends lane track log h in
    let took : List (List ℕ) = frames (got_of track) in
    let start = ends.receiver.demand in
    let whole : AllBytes (wire h.emits.frames ends.source.plan) = subst AllBytes h.emits.wire_is h.emits.bytes in
    let bytes : AllBytes took = subst AllBytes (sym (front_is ends lane track log h)) (bytes_of_taken (length took) (wire h.emits.frames ends.source.plan) whole) in
    record { count = run.count; frames = run.frames; sealed = run.sealed; n = run.n; taken = run.taken; judged = verdicts_follow ends.receiver.opener ends.nows start 0 took bytes }

module _ (lanes : List Ends) (capacity : ℕ) (old now : Relay) (room : 1 ≤ capacity) (fresh_is : HasTurned lanes capacity [] old) where
  pub relayed_from : IsPartOf (finishing old.tracks) old now → IsRelayed lanes now.log
  relayed_from part =
      let begun : AreBegun capacity lanes old.tracks old.sents =
      (let P : Relay → Type 0 = λ r. AreBegun capacity lanes r.tracks r.sents in subst P (sym fresh_is.left) fresh_is.start.lanes_are) in
      let none : old.log.entries ≡ [] = ap (λ (r : Relay). r.log.entries) fresh_is.left ∙ ap (λ (l : LogState). l.entries) fresh_is.start.log in
      let are = begun_fresh capacity lanes old.tracks old.sents begun room in
      let found = part_of_rounds (longest_wire old.tracks + 1) old.tracks 0 old part.0 part.1.0 are.1 (no_rounds old are.0 none) part.1.1 in
      let in_part : InPart old.tracks now = subst (λ (r : Relay). InPart old.tracks r) (sym part.2) found in
      let stand = stand_all lanes capacity part.0 now (goes_on old now part.0 part.2 lanes capacity [] fresh_is) in
      let runs = runs_left lanes now.tracks in
      let each : (lane : ℕ) (ends : Ends) (track : TrackState) → slice_get lanes lane ≡ Some ends → slice_get now.tracks lane ≡ Some track → IsRun (run_over ends (frames (got_of track))) =
      λ lane ends track at-e at-t. front_of ends lane track now.log (stand.each lane ends track at-e at-t) in
      relayed_of lanes runs now.log (are_left lanes now.tracks stand.count each)
      (entries_part capacity lanes old.tracks old.sents now begun in_part ∙ ap rounds_of (runs_same lanes now.tracks))
      (λ lane run at.
      let w = left_at lanes now.tracks lane run at in
      let P : Run → Type 0 = λ r. EndsWhole now.log lane r in
      subst P w.run_is (takes_all w.ends lane w.track now.log (stand.each lane w.ends w.track w.ends_at w.track_at)))
