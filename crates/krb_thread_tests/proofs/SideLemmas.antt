-- What a send, and a receive, leaves of an end.
use Rattle.std.proofs.Common.{◌≡◌, ◌∙◌, ◌+◌, ◌<◌, ℕ, Bool, true, List, [], ◌∷◌, ◌++◌, length, length-append, append_assoc, ap, sym, arith}
use Rattle.std.specs.Prelude.{if◌then◌else◌}
use Rattle.krb_lane.specs.Side.{Side, Takes}
use Rattle.krb_lane.specs.declared.item.Item.{Item}
use Rattle.krb_lane.specs.declared.item.Item.TheVariants.{Frame, End}

-- an end that was counted below 100 may send one more
pub few_sent : (count sent : ℕ) → count ≡ sent → count < 100 → sent < 9223372036854775808
few_sent count sent is few = omega arith

-- an end that sent nothing may send
pub none_sent : (tx : Side) → tx.frames ≡ [] → length tx.frames < 9223372036854775808
none_sent tx none =
    let n : length tx.frames ≡ 0 = ap length none in
    omega arith

-- an end that sent one frame may send one more
pub one_sent : (tx new : Side) (b : List ℕ) → tx.frames ≡ [] → new ≡ record tx { frames = tx.frames ++ b ∷ [] } → length new.frames < 9223372036854775808
one_sent tx new b none is =
    let n : length new.frames ≡ 1 = ap (λ (s : Side). length s.frames) is ∙ ap (λ (f : List (List ℕ)). length (f ++ b ∷ [])) none in
    omega arith

-- an end that has sent the first of few frames may send one more
pub some_sent : (start tx : Side) (all sent rest : List (List ℕ)) → length start.frames + length all < 9223372036854775808 → tx ≡ record start { frames = start.frames ++ sent } → all ≡ sent ++ rest → length tx.frames < 9223372036854775808
some_sent start tx all sent rest few tx_is all_is =
    let n : length tx.frames ≡ length (start.frames ++ sent) = ap (λ (s : Side). length s.frames) tx_is in
    let m : length all ≡ length (sent ++ rest) = ap length all_is in
    omega (arith, length-append start.frames sent, length-append sent rest)

-- one frame more is sent
pub sends_next : (start tx new : Side) (sent : List (List ℕ)) (given b : List ℕ) → tx ≡ record start { frames = start.frames ++ sent } → new ≡ record tx { frames = tx.frames ++ given ∷ [] } → given ≡ b → new ≡ record start { frames = start.frames ++ (sent ++ b ∷ []) }
sends_next start tx new sent given b tx_is new_is is =
    new_is ∙ ap (λ (t : Side). record t { frames = t.frames ++ given ∷ [] }) tx_is
    ∙ ap (λ (f : List (List ℕ)). record start { frames = f }) (append_assoc start.frames sent (given ∷ []) ∙ ap (λ (x : List ℕ). start.frames ++ (sent ++ x ∷ [])) is)

-- the next frame moves from the rest to those that were sent
pub moves_on : (all sent rest after : List (List ℕ)) (b : List ℕ) → all ≡ sent ++ rest → rest ≡ b ∷ after → all ≡ (sent ++ b ∷ []) ++ after
moves_on all sent rest after b all_is rest_is =
    all_is ∙ ap (λ (r : List (List ℕ)). sent ++ r) rest_is ∙ sym (append_assoc sent (b ∷ []) after)

-- a receive leaves the end in its lane
pub takes_lane : (old new : Side) (item : Item) → Takes old new item → new.lane ≡ old.lane
takes_lane old new (Frame i b) taken = ap (λ (s : Side). s.lane) taken.2
takes_lane old new End taken = ap (λ (s : Side). s.lane) taken

-- a frame that was got and then pushed is the next of both lists
pub takes_frame : (old new : Side) (item : Item) (i : ℕ) (b : List ℕ) (got pushed other : List (List ℕ)) (ok : Bool) → Takes old new item → item ≡ Frame i b → old.frames ≡ got → pushed ≡ (if ok then got ++ b ∷ [] else other) → ok ≡ true → new.frames ≡ pushed
takes_frame old new item i b got pushed other ok taken is same pushed_is is_ok =
    ap (λ (s : Side). s.frames) (rw is at taken).2 ∙ ap (λ (f : List (List ℕ)). f ++ b ∷ []) same ∙ sym (rw is_ok at pushed_is)
