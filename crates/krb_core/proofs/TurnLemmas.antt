-- What turns leave, round by round.
use Rattle.std.proofs.Common.{◌≡◌, ℕ, suc, ◌+◌, ◌-◌, ◌<◌, ◌≤◌, List, [], ◌∷◌, ◌++◌, length, map, set, slice_get, Option, Some, None, Result, Ok, Err, refl, sym, ap, subst, ◌∙◌, arith, append-nil, append_assoc, length-append}
use Rattle.std.specs.Prelude.{OnOk}
use Rattle.krb_base.specs.Lane.{Item, Frame, End}
use Rattle.krb_base.specs.Prefix.{IsPrefix}
use Rattle.krb_base.proofs.PrefixLemmas.{prefix_whole, prefix_same, prefix_trans}
use Rattle.krb_peers.specs.declared.sending.Sent.{Sent}
use Rattle.krb_core.specs.declared.turn.Turn.{Turn}
use Rattle.krb_core.specs.declared.turn.Turn.TheVariants.{Send, Take}
use Rattle.krb_peers.specs.LogState.{LogState}
use Rattle.krb_core.specs.Track.{TrackState, after_send, after_take, verdict_now, log_then, log_after}
use Rattle.krb_peers.specs.Logged.{entries_by}
use Rattle.krb_core.specs.Stepped.{Relay, lane_of, turned_at, turned, after}
use Rattle.krb_core.specs.Finish.{round_turns, rounds_turns, finishing}
use Rattle.krb_core.proofs.SteppedLemmas.{relay_of, turned_count}
use Rattle.krb_core.proofs.RelayedClaims.{after-append}

-- ---- turns after turns

pub after_count : (relay : Relay) (turns : List Turn) → length (after relay turns).tracks ≡ length relay.tracks
after_count relay [] = refl
after_count relay (turn ∷ turns) = after_count (turned relay turn) turns ∙ turned_count relay turn

-- ---- one round of all lanes

abbrev pub stepped : TrackState → TrackState
stepped track = after_take (after_send track)

abbrev pub log_round : ℕ → LogState → List TrackState → LogState
log_round lane log [] = log
log_round lane log (track ∷ tracks) = log_round (lane + 1) (log_after log lane (after_send track)) tracks

get_seam : {X : Type 0} (front back : List X) (x : X) → slice_get (front ++ x ∷ back) (length front) ≡ Some x
get_seam [] back x = refl
get_seam (y ∷ front) back x = get_seam front back x

set_seam : {X : Type 0} (front back : List X) (x y : X) → set (front ++ x ∷ back) (length front) y ≡ front ++ y ∷ back
set_seam [] back x y = refl
set_seam (z ∷ front) back x y = ap (λ l. z ∷ l) (set_seam front back x y)

module _ (sents : List Sent) where
  pub lane_sent : (front back : List TrackState) (track : TrackState) (log : LogState)
      → turned (relay_of (front ++ track ∷ back) log sents) (Send (length front)) ≡ relay_of (front ++ after_send track ∷ back) log sents
  lane_sent front back track log =
      let k = length front in
      ap (λ o. turned_at (relay_of (front ++ track ∷ back) log sents) (Send k) o) (get_seam front back track) ∙ ap (λ ts. relay_of ts log sents) (set_seam front back track (after_send track))

  pub lane_turned : (front back : List TrackState) (track : TrackState) (log : LogState)
      → turned (turned (relay_of (front ++ track ∷ back) log sents) (Send (length front))) (Take (length front))
      ≡ relay_of (front ++ stepped track ∷ back) (log_after log (length front) (after_send track)) sents
  lane_turned front back track log =
      let k = length front in
      let before = relay_of (front ++ track ∷ back) log sents in
      let middle = relay_of (front ++ after_send track ∷ back) log sents in
      let one : turned before (Send k) ≡ middle = lane_sent front back track log in
      let two : turned middle (Take k) ≡ relay_of (front ++ stepped track ∷ back) (log_after log k (after_send track)) sents =
      ap (λ o. turned_at middle (Take k) o) (get_seam front back (after_send track))
      ∙ ap (λ ts. relay_of ts (log_after log k (after_send track)) sents) (set_seam front back (after_send track) (stepped track)) in
      ap (λ r. turned r (Take k)) one ∙ two

  pub round_leaves : (front back : List TrackState) (log : LogState) (k : ℕ) → k ≡ length front
      → after (relay_of (front ++ back) log sents) (round_turns k (length back)) ≡ relay_of (front ++ map stepped back) (log_round k log back) sents
  round_leaves front [] log k is = refl
  round_leaves front (track ∷ back) log k is =
      let rest : List Turn = round_turns (k + 1) (length back) in
      let long : k + 1 ≡ length (front ++ stepped track ∷ []) = omega (arith, is, length-append front (stepped track ∷ [])) in
      let here : turned (turned (relay_of (front ++ track ∷ back) log sents) (Send k)) (Take k) ≡ relay_of (front ++ stepped track ∷ back) (log_after log k (after_send track)) sents =
      (let P : ℕ → Type 0 = λ j. turned (turned (relay_of (front ++ track ∷ back) log sents) (Send j)) (Take j) ≡ relay_of (front ++ stepped track ∷ back) (log_after log j (after_send track)) sents in
      subst P (sym is) (lane_turned front back track log)) in
      let log-now : LogState = log_after log k (after_send track) in
      ap (λ r. after r rest) (here ∙ ap (λ ts. relay_of ts log-now sents) (sym (append_assoc front (stepped track ∷ []) back)))
      ∙ (round_leaves (front ++ stepped track ∷ []) back log-now (k + 1) long
      ∙ ap (λ ts. relay_of ts (log_round (k + 1) log-now back) sents) (append_assoc front (stepped track ∷ []) (map stepped back)))

-- ---- no turn takes an entry back

log_grows : (log : LogState) (lane : ℕ) (track : TrackState) (queue : List (Item (List ℕ))) → IsPrefix log.entries (log_then log lane track queue).entries
log_grows log lane track [] = prefix_same log.entries
log_grows log lane track (Frame frame ∷ queue) = prefix_whole log.entries (entries_by lane (verdict_now track frame))
log_grows log lane track (End ∷ queue) = prefix_same log.entries

turn_grows : (relay : Relay) (turn : Turn) (o : Option TrackState) → IsPrefix relay.log.entries (turned_at relay turn o).log.entries
turn_grows relay turn None = prefix_same relay.log.entries
turn_grows relay (Send lane) (Some track) = prefix_same relay.log.entries
turn_grows relay (Take lane) (Some track) = log_grows relay.log lane track track.lane.queue

pub entries_grow : (relay : Relay) (turns : List Turn) → IsPrefix relay.log.entries (after relay turns).log.entries
entries_grow relay [] = prefix_same relay.log.entries
entries_grow relay (turn ∷ turns) =
    let next = turned relay turn in
    prefix_trans relay.log.entries next.log.entries (after next turns).log.entries (turn_grows relay turn (slice_get relay.tracks (lane_of turn))) (entries_grow next turns)

-- ---- turns of which a part was taken

-- of all turns these are left, and the others left this of a relay
pub record HasServed (all left : List Turn) (begun now : Relay) : Type 0 where
  pub done : List Turn
  pub split : all ≡ done ++ left
  pub leaves : now ≡ after begun done

pub served_one : (all left : List Turn) (turn : Turn) (begun then now : Relay) → HasServed all (turn ∷ left) begun then → now ≡ turned then turn → HasServed all left begun now
served_one all left turn begun then now h is = record {
  done = h.done ++ turn ∷ [];
  split = h.split ∙ sym (append_assoc h.done (turn ∷ []) left);
  leaves = is ∙ (ap (λ r. turned r turn) h.leaves ∙ sym (after-append begun h.done (turn ∷ [])));
}

pub served_part : (all left : List Turn) (begun now : Relay) → HasServed all left begun now → (done : List Turn) × IsPrefix done all × (now ≡ after begun done)
served_part all left begun now h = (h.done, (left, h.split), h.leaves)

pub served_all : (all : List Turn) (begun now : Relay) → HasServed all [] begun now → now ≡ after begun all
served_all all begun now h = h.leaves ∙ ap (λ ts. after begun ts) (sym (h.split ∙ append-nil h.done))

-- the next lane of a round: its send, and the take after it
pub served_send : (n lane : ℕ) (begun then now : Relay) → lane < n → HasServed (round_turns 0 n) (round_turns lane (n - lane)) begun then → now ≡ turned then (Send lane)
    → HasServed (round_turns 0 n) (Take lane ∷ round_turns (lane + 1) (n - (lane + 1))) begun now
served_send n lane begun then now lt h is =
    let e : n - lane ≡ suc (n - (lane + 1)) = omega (arith, lt) in
    let P : ℕ → Type 0 = λ m. HasServed (round_turns 0 n) (round_turns lane m) begun then in
    served_one (round_turns 0 n) (Take lane ∷ round_turns (lane + 1) (n - (lane + 1))) (Send lane) begun then now (subst P e h) is

-- a round more, or a part of one
pub served_many : (all xs ys : List Turn) (begun then now : Relay) → HasServed all (xs ++ ys) begun then → now ≡ after then xs → HasServed all ys begun now
served_many all xs ys begun then now h is = record {
  done = h.done ++ xs;
  split = h.split ∙ sym (append_assoc h.done xs ys);
  leaves = is ∙ (ap (λ r. after r xs) h.leaves ∙ sym (after-append begun h.done xs));
}

pub served_some : (all xs ys : List Turn) (begun then now : Relay) → HasServed all (xs ++ ys) begun then → (some : (done : List Turn) × IsPrefix done xs × (now ≡ after then done))
    → (done : List Turn) × IsPrefix done all × (now ≡ after begun done)
served_some all xs ys begun then now h some =
    let rest = some.1.0 in
    let e : xs ++ ys ≡ some.0 ++ (rest ++ ys) = ap (λ z. z ++ ys) some.1.1 ∙ append_assoc some.0 rest ys in
    let P : List Turn → Type 0 = λ z. HasServed all z begun then in
    served_part all (rest ++ ys) begun now (served_many all some.0 (rest ++ ys) begun then now (subst P e h) some.2)

-- the rounds that are left when so many of all but the last are over
abbrev pub left_over : ℕ → ℕ → ℕ → List Turn
left_over all over count = rounds_turns (all - over + 1) count

pub left_next : (all over count : ℕ) → over < all → left_over all over count ≡ round_turns 0 count ++ left_over all (over + 1) count
left_next all over count lt =
    let e : all - over + 1 ≡ suc (all - (over + 1) + 1) = omega (arith, lt) in
    ap (λ n. rounds_turns n count) e

pub left_last : (all over count : ℕ) → all ≤ over → left_over all over count ≡ round_turns 0 count ++ []
left_last all over count le =
    let e : all - over + 1 ≡ 1 = omega (arith, le) in
    ap (λ n. rounds_turns n count) e

-- ---- a round of those that are left

abbrev pub IsPartOf : List Turn → Relay → Relay → Type 0
IsPartOf all begun now = (done : List Turn) × IsPrefix done all × (now ≡ after begun done)

module _ (begun then now : Relay) (rounds over : ℕ) (rest : List Turn) (same : length then.tracks ≡ length begun.tracks)
    (next : left_over rounds over (length begun.tracks) ≡ round_turns 0 (length begun.tracks) ++ rest)
    (served : HasServed (finishing begun.tracks) (left_over rounds over (length begun.tracks)) begun then) where
  at_round_next : HasServed (finishing begun.tracks) (round_turns 0 (length begun.tracks) ++ rest) begun then
  at_round_next = let P : List Turn → Type 0 = λ ts. HasServed (finishing begun.tracks) ts begun then in subst P next served

  pub round_in_part : IsPartOf (round_turns 0 (length then.tracks)) then now → IsPartOf (finishing begun.tracks) begun now
  round_in_part part =
      let P : ℕ → Type 0 = λ n. IsPartOf (round_turns 0 n) then now in
      served_some (finishing begun.tracks) (round_turns 0 (length begun.tracks)) rest begun then now at_round_next (subst P same part)

  pub round_in_full : now ≡ after then (round_turns 0 (length then.tracks)) → HasServed (finishing begun.tracks) rest begun now
  round_in_full is =
      served_many (finishing begun.tracks) (round_turns 0 (length begun.tracks)) rest begun then now at_round_next (is ∙ ap (λ n. after then (round_turns 0 n)) same)

  pub round_count : now ≡ after then (round_turns 0 (length then.tracks)) → length now.tracks ≡ length begun.tracks
  round_count is = ap (λ (r : Relay). length r.tracks) is ∙ (after_count then (round_turns 0 (length then.tracks)) ∙ same)

-- what follows from a good answer
pub on_ok : {A E : Type 0} (P Q : Type 0) (r : Result A E) → (P → Q) → OnOk r P → OnOk r Q
on_ok P Q (Ok x) f h = f h
on_ok P Q (Err e) f h = tt
