-- The ends that the calling thread holds, and what comes through them where it stops.
use Rattle.std.proofs.Common.{◌≡◌, ℕ, ◌<◌, zero, suc, List, [], ◌∷◌, length, map, set, get_or, refl, ap, ap₂, ◌∙◌, arith}
use Rattle.std.specs.Prelude.{All}
use Rattle.std.specs.List.{AllZip}
use Rattle.std.proofs.lemmas.List.Elements.{All-nil, All-cons, All-head, All-tail, AllZip-get_or}
use Rattle.krb_base.proofs.PrefixLemmas.{prefix_same, prefix_trans}
use Rattle.krb_lane.specs.Side.{Side}
use Rattle.krb_peers.specs.declared.receiver.Receiving.{Receiving}
use Rattle.krb_peers.specs.LogState.{LogState}
use Rattle.krb_relay.specs.Gathering.{lane_of, NotesTaken}
use Rattle.krb_relay.specs.Heard.{heard, AreAnswers, BeginsAt, all_heard}
use Rattle.krb_relay.specs.Serving.{Post, post, posts, heard_at, Drains}
use Rattle.krb_relay.proofs.HeardLemmas.{begins_self}

-- ---- ends with their receivers

pub posts_length : (starts : List Receiving) (ends : List Side) (receivings : List Receiving) → length ends ≡ length starts → length receivings ≡ length starts
    → length (posts starts ends receivings) ≡ length starts
posts_length [] ends receivings e r = refl
posts_length (s ∷ starts) [] receivings e r = absurd (omega (arith, e))
posts_length (s ∷ starts) (x ∷ ends) [] e r = absurd (omega (arith, r))
posts_length (s ∷ starts) (x ∷ ends) (y ∷ receivings) e r = ap suc (posts_length starts ends receivings (omega (arith, e)) (omega (arith, r)))

pub posts_at : (starts : List Receiving) (ends : List Side) (receivings : List Receiving) (k : ℕ) (s : Receiving) (x : Side) (r : Receiving) (none : Post)
    → length ends ≡ length starts → length receivings ≡ length starts → k < length starts
    → get_or (posts starts ends receivings) k none ≡ post (get_or starts k s) (get_or ends k x) (get_or receivings k r)
posts_at [] ends receivings k s x r none e f lt = absurd (omega (arith, lt))
posts_at (t ∷ starts) [] receivings k s x r none e f lt = absurd (omega (arith, e))
posts_at (t ∷ starts) (y ∷ ends) [] k s x r none e f lt = absurd (omega (arith, f))
posts_at (t ∷ starts) (y ∷ ends) (z ∷ receivings) zero s x r none e f lt = refl
posts_at (t ∷ starts) (y ∷ ends) (z ∷ receivings) (suc k) s x r none e f lt =
    posts_at starts ends receivings k s x r none (omega (arith, e)) (omega (arith, f)) (omega (arith, lt))

pub posts_set : (starts : List Receiving) (ends : List Side) (receivings : List Receiving) (k : ℕ) (s : Receiving) (x : Side) (r : Receiving)
    → length ends ≡ length starts → length receivings ≡ length starts → k < length starts
    → posts starts (set ends k x) (set receivings k r) ≡ set (posts starts ends receivings) k (post (get_or starts k s) x r)
posts_set [] ends receivings k s x r e f lt = absurd (omega (arith, lt))
posts_set (t ∷ starts) [] receivings k s x r e f lt = absurd (omega (arith, e))
posts_set (t ∷ starts) (y ∷ ends) [] k s x r e f lt = absurd (omega (arith, f))
posts_set (t ∷ starts) (y ∷ ends) (z ∷ receivings) zero s x r e f lt = refl
posts_set (t ∷ starts) (y ∷ ends) (z ∷ receivings) (suc k) s x r e f lt =
    ap (λ l. post t y z ∷ l) (posts_set starts ends receivings k s x r (omega (arith, e)) (omega (arith, f)) (omega (arith, lt)))

pub posts_heard : (starts : List Receiving) (ends : List Side) (receivings : List Receiving) → length ends ≡ length starts → length receivings ≡ length starts
    → map heard_at (posts starts ends receivings) ≡ all_heard starts ends
posts_heard [] ends receivings e f = refl
posts_heard (s ∷ starts) [] receivings e f = absurd (omega (arith, e))
posts_heard (s ∷ starts) (x ∷ ends) [] e f = absurd (omega (arith, f))
posts_heard (s ∷ starts) (x ∷ ends) (r ∷ receivings) e f =
    ap (λ l. heard s x.frames ∷ l) (posts_heard starts ends receivings (omega (arith, e)) (omega (arith, f)))

pub posts_answered : (ps : List Post) → All (λ p. AreAnswers (heard_at p)) ps → All AreAnswers (map heard_at ps)
posts_answered [] h = All-nil AreAnswers
posts_answered (p ∷ ps) h =
    All-cons AreAnswers (heard_at p) (map heard_at ps) (All-head (λ p. AreAnswers (heard_at p)) p ps h) (posts_answered ps (All-tail (λ p. AreAnswers (heard_at p)) p ps h))

-- ---- more came

pub drains_more : (l m n : Side) → Drains l m → Drains m n → Drains l n
drains_more l m n p q = record {
  same = q.same ∙ p.same;
  more = prefix_trans l.frames m.frames n.frames p.more q.more;
  ended = λ is. q.ended (p.ended is);
}

pub drains_self : (l : Side) → Drains l l
drains_self l = record { same = refl; more = prefix_same l.frames; ended = λ is. is }

pub all_drains_self : (ls : List Side) → AllZip Drains ls ls
all_drains_self [] = tt
all_drains_self (l ∷ ls) = (drains_self l, all_drains_self ls)

pub all_drains_set : (ls ms : List Side) (k : ℕ) (none n : Side) → k < length ms → Drains (get_or ms k none) n → AllZip Drains ls ms → AllZip Drains ls (set ms k n)
all_drains_set [] [] k none n lt p h = tt
all_drains_set [] (m ∷ ms) k none n lt p h = absurd h
all_drains_set (l ∷ ls) [] k none n lt p h = absurd h
all_drains_set (l ∷ ls) (m ∷ ms) zero none n lt p h = (drains_more l m n h.0 p, h.1)
all_drains_set (l ∷ ls) (m ∷ ms) (suc k) none n lt p h = (h.0, all_drains_set ls ms k none n (omega (arith, lt)) p h.1)

pub all_drains_more : (ls ms ns : List Side) → AllZip Drains ls ms → AllZip Drains ms ns → AllZip Drains ls ns
all_drains_more [] [] [] p q = tt
all_drains_more [] [] (n ∷ ns) p q = absurd q
all_drains_more [] (m ∷ ms) ns p q = absurd p
all_drains_more (l ∷ ls) [] ns p q = absurd p
all_drains_more (l ∷ ls) (m ∷ ms) [] p q = absurd q
all_drains_more (l ∷ ls) (m ∷ ms) (n ∷ ns) p q = (drains_more l m n p.0 q.0, all_drains_more ls ms ns p.1 q.1)

-- what was heard then begins what is heard now
pub drained_begins : (starts : List Receiving) (ends now : List Side) → AllZip Drains ends now → AllZip BeginsAt (all_heard starts ends) (all_heard starts now)
drained_begins [] ends now h = tt
drained_begins (s ∷ starts) [] [] h = (begins_self (heard s []), drained_begins starts [] [] tt)
drained_begins (s ∷ starts) [] (n ∷ now) h = absurd h
drained_begins (s ∷ starts) (l ∷ ends) [] h = absurd h
drained_begins (s ∷ starts) (l ∷ ends) (n ∷ now) h = ((refl, h.0.more), drained_begins starts ends now h.1)

pub drained_same : (ends now : List Side) → AllZip Drains ends now → map lane_of now ≡ map lane_of ends
drained_same [] [] h = refl
drained_same [] (n ∷ now) h = absurd h
drained_same (l ∷ ends) [] h = absurd h
drained_same (l ∷ ends) (n ∷ now) h = ap₂ (λ x xs. x ∷ xs) h.0.same (drained_same ends now h.1)

drained_count : (ends now : List Side) → AllZip Drains ends now → length now ≡ length ends
drained_count [] [] h = refl
drained_count [] (n ∷ now) h = absurd h
drained_count (l ∷ ends) [] h = absurd h
drained_count (l ∷ ends) (n ∷ now) h = ap suc (drained_count ends now h.1)

-- Ends that were taken then are taken now
pub drained_taken : (log : LogState) (ends now : List Side) → AllZip Drains ends now → NotesTaken log ends → NotesTaken log now
drained_taken log ends now h taken lane below is =
    let t = taken lane below is in
    let there = t.there in
    let c = drained_count ends now h in
    record { there = omega (arith, c, there); ended = λ none. (AllZip-get_or Drains ends now lane none none h there).ended (t.ended none) }

-- a write of an end of the same lane
pub same_lanes : (ends : List Side) (k : ℕ) (none n : Side) → n.lane ≡ (get_or ends k none).lane → map lane_of (set ends k n) ≡ map lane_of ends
same_lanes [] k none n h = refl
same_lanes (l ∷ ends) zero none n h = ap (λ x. x ∷ map lane_of ends) h
same_lanes (l ∷ ends) (suc k) none n h = ap (λ x. lane_of l ∷ x) (same_lanes ends k none n h)
