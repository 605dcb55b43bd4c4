-- Lists of items of a running lane.
use Rattle.std.proofs.Common.{◌≡◌, ◌+◌, ◌++◌, ℕ, suc, false, List, [], ◌∷◌, map, length, refl, sym, ap, ◌∙◌, subst, arith}
use Rattle.std.proofs.lemmas.List.{map-append, length-map}
use Rattle.krb_base.specs.Lane.{frames}
use Rattle.krb_base.specs.Lane as lane
use Rattle.krb_base.proofs.LaneLemmas.{frames-append}
use Rattle.krb_base.proofs.LaneLemmas as base
use Rattle.krb_lane.specs.Items.{Numbered, item_of, items, bytes_of, frames_of, has_end, IsNumbered, IsNext}
use Rattle.krb_lane.specs.declared.item.Item.{Item}
use Rattle.krb_lane.specs.declared.item.Item.TheVariants.{Frame, End}

pub frames_items-append : (xs ys : List Item) → frames (items (xs ++ ys)) ≡ frames (items xs) ++ frames (items ys)
frames_items-append xs ys = ap frames (map-append item_of xs ys) ∙ frames-append (items xs) (items ys)

pub bytes_of-append : (xs ys : List (lane.Item Numbered)) → bytes_of (xs ++ ys) ≡ bytes_of xs ++ bytes_of ys
bytes_of-append xs ys = ap (λ (l : List Numbered). map (λ (f : Numbered). f.bytes) l) (frames-append xs ys) ∙ map-append (λ (f : Numbered). f.bytes) (frames xs) (frames ys)

pub frames_of-append : (xs ys : List Item) → frames_of (xs ++ ys) ≡ frames_of xs ++ frames_of ys
frames_of-append xs ys = ap bytes_of (map-append item_of xs ys) ∙ bytes_of-append (items xs) (items ys)

pub count_frames : (xs : List Item) → length (frames_of xs) ≡ length (frames (items xs))
count_frames xs = length-map (frames (items xs)) (λ (f : Numbered). f.bytes)

pub has_end-append : (xs ys : List Item) → has_end xs ≡ false → has_end (xs ++ ys) ≡ has_end ys
has_end-append xs ys off = ap (λ l. lane.has_end l) (map-append item_of xs ys) ∙ base.has_end-append (items xs) (items ys) off

pub no_items : (xs : List Item) → items xs ≡ [] → xs ≡ []
no_items [] none = refl
no_items (x ∷ xs) none = cc

numbered-append : (k : ℕ) (fs gs : List Numbered) → IsNumbered k fs → IsNumbered (k + length fs) gs → IsNumbered k (fs ++ gs)
numbered-append k [] gs h then = subst (λ (n : ℕ). IsNumbered n gs) (omega arith) then
numbered-append k (f ∷ fs) gs h then = (h.0, h.1, numbered-append (suc k) fs gs h.2 (subst (λ (n : ℕ). IsNumbered n gs) (omega arith) then))

numbered_rest : (k : ℕ) (fs gs : List Numbered) → IsNumbered k (fs ++ gs) → IsNumbered (k + length fs) gs
numbered_rest k [] gs h = subst (λ (n : ℕ). IsNumbered n gs) (omega arith) h
numbered_rest k (f ∷ fs) gs h = subst (λ (n : ℕ). IsNumbered n gs) (omega arith) (numbered_rest (suc k) fs gs h.2)

one_numbered : (k : ℕ) (x : Item) → IsNext k x → IsNumbered k (frames (items (x ∷ [])))
one_numbered k (Frame i b) h = (h.0, h.1, tt)
one_numbered k End h = tt

first_is_next : (k : ℕ) (x : Item) (xs : List Item) → IsNumbered k (frames (items (x ∷ xs))) → IsNext k x
first_is_next k (Frame i b) xs h = (h.0, h.1)
first_is_next k End xs h = tt

-- the next item after numbered ones
pub numbered_next : (sent : List Item) (x : Item) → IsNumbered 0 (frames (items sent)) → IsNext (length (frames_of sent)) x → IsNumbered 0 (frames (items (sent ++ x ∷ [])))
numbered_next sent x h next =
    let n : length (frames_of sent) ≡ 0 + length (frames (items sent)) = let e = count_frames sent in omega (arith, e) in
    subst (λ (l : List Numbered). IsNumbered 0 l) (sym (frames_items-append sent (x ∷ [])))
    (numbered-append 0 (frames (items sent)) (frames (items (x ∷ []))) h (subst (λ (k : ℕ). IsNumbered k (frames (items (x ∷ [])))) n (one_numbered (length (frames_of sent)) x next)))

-- the item after those that were got
pub next_of : (got : List Item) (x : Item) (xs : List Item) → IsNumbered 0 (frames (items got) ++ frames (items (x ∷ xs))) → IsNext (length (frames_of got)) x
next_of got x xs h =
    let n : 0 + length (frames (items got)) ≡ length (frames_of got) = let e = count_frames got in omega (arith, e) in
    first_is_next (length (frames_of got)) x xs (subst (λ (k : ℕ). IsNumbered k (frames (items (x ∷ xs)))) n (numbered_rest 0 (frames (items got)) (frames (items (x ∷ xs))) h))
