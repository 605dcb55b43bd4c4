-- What comes of the frames that were heard.
use Rattle.std.proofs.Common.{◌≡◌, ℕ, ◌+◌, ◌≤◌, List, [], ◌∷◌, ◌++◌, length, map, refl, sym, ap, ◌∙◌, arith}
use Rattle.std.specs.Prelude.{All}
use Rattle.std.specs.List.{AllZip}
use Rattle.std.proofs.lemmas.List.{length-map}
use Rattle.std.proofs.lemmas.List.Elements.{All-nil, All-cons, All-head, All-tail}
use Rattle.krb_base.proofs.PrefixLemmas.{prefix_same}
use Rattle.krb_lane.specs.Side.{Side}
use Rattle.krb_peers.specs.declared.receiver.Receiving.{Receiving}
use Rattle.krb_peers.specs.Order.{demand_after}
use Rattle.krb_peers.specs.Moments.{moment_at}
use Rattle.krb_peers.specs.Rounds.{NoneLonger}
use Rattle.krb_peers.specs.Verdicts.{verdict, records_of, events_by}
use Rattle.krb_peers.proofs.RoundsLemmas.{rounds-from_below}
use Rattle.krb_peers.proofs.VerdictLemmas.{verdicts-push, length-verdicts}
use Rattle.krb_relay.specs.Heard.{Heard, heard, answers, AreAnswers, groups_in, rounds_heard, BeginsAt, all_heard}

-- ---- one verdict for each frame

pub length-groups : (h : Heard) → length (groups_in h) ≡ length h.frames
length-groups h =
    let first = h.start.receiver.demand in
    length-map (answers h) events_by ∙ length-verdicts h.start.receiver.opener h.start.nows.items first 0 h.frames

-- one frame more
pub answers-push : (start : Receiving) (frames : List (List ℕ)) (frame : List ℕ)
    → let first = start.receiver.demand in
    let before = answers (heard start frames) in
    answers (heard start (frames ++ frame ∷ [])) ≡ before ++ verdict start.receiver.opener (demand_after first (records_of before)) (moment_at start.nows.items (length frames)) frame ∷ []
answers-push start frames frame =
    let first = start.receiver.demand in
    let zero_more : 0 + length frames ≡ length frames = omega arith in
    rw zero_more at (verdicts-push start.receiver.opener start.nows.items first 0 frames frame)

-- ---- nothing was heard

pub no_answers : (start : Receiving) → AreAnswers (heard start [])
no_answers start = record { one_each = refl; each = λ i frame v at-f at-v. absurd (let e = at-f in cc) }

none_heard : (starts : List Receiving) (ends : List Side) → All (λ (rx : Side). rx.frames ≡ []) ends → NoneLonger 0 (map groups_in (all_heard starts ends))
none_heard [] ends h = All-nil (λ groups. length groups ≤ 0)
none_heard (start ∷ starts) [] h =
    All-cons (λ groups. length groups ≤ 0) (groups_in (heard start [])) (map groups_in (all_heard starts [])) (omega (arith, length-groups (heard start [])))
    (none_heard starts [] (All-nil (λ (rx : Side). rx.frames ≡ [])))
none_heard (start ∷ starts) (rx ∷ ends) h =
    let none : rx.frames ≡ [] = All-head (λ (rx : Side). rx.frames ≡ []) rx ends h in
    let short : length (groups_in (heard start rx.frames)) ≡ length rx.frames = length-groups (heard start rx.frames) in
    All-cons (λ groups. length groups ≤ 0) (groups_in (heard start rx.frames)) (map groups_in (all_heard starts ends)) (omega (arith, short, ap length none))
    (none_heard starts ends (All-tail (λ (rx : Side). rx.frames ≡ []) rx ends h))

-- so there is no entry
pub rounds_none : (starts : List Receiving) (ends : List Side) → All (λ (rx : Side). rx.frames ≡ []) ends → [] ≡ rounds_heard (all_heard starts ends)
rounds_none starts ends h = sym (rounds-from_below 0 (map groups_in (all_heard starts ends)) (none_heard starts ends h))

pub none_answered : (starts : List Receiving) (ends : List Side) → All (λ (rx : Side). rx.frames ≡ []) ends → All AreAnswers (all_heard starts ends)
none_answered [] ends h = All-nil AreAnswers
none_answered (start ∷ starts) [] h =
    All-cons AreAnswers (heard start []) (all_heard starts []) (no_answers start) (none_answered starts [] (All-nil (λ (rx : Side). rx.frames ≡ [])))
none_answered (start ∷ starts) (rx ∷ ends) h =
    let none : rx.frames ≡ [] = All-head (λ (rx : Side). rx.frames ≡ []) rx ends h in
    All-cons AreAnswers (heard start rx.frames) (all_heard starts ends) (rw none (no_answers start)) (none_answered starts ends (All-tail (λ (rx : Side). rx.frames ≡ []) rx ends h))

-- ---- the same receivers, and no more frames

pub begins_self : (h : Heard) → BeginsAt h h
begins_self h = (refl, prefix_same h.frames)

pub begins_selves : (all : List Heard) → AllZip BeginsAt all all
begins_selves [] = tt
begins_selves (h ∷ all) = (begins_self h, begins_selves all)
