-- Frames, one after another.
use Rattle.std.proofs.Common.{◌≡◌, ℕ, zero, suc, ◌+◌, ◌<◌, ◌≤◌, ◌≢◌, List, [], ◌∷◌, ◌++◌, length, take, drop, get_or, set, Some, refl, sym, ap, ◌∙◌, arith, length-append, get_or-set_other, get_or-set_same, below_more, add-one}
use Rattle.std.proofs.Math.Seq.{take-append_seam}
use Rattle.std.proofs.lemmas.List.{append_assoc, append-nil, take_all}
use Rattle.std.proofs.lemmas.Slice.{drop-append-drop}
use Rattle.std.specs.Prelude.{slice_get, slice_index}
use Rattle.std.specs.Global.{Vec}
use Rattle.std.proofs.lemmas.Option.{slice_get_within, get_or_from_slice_get}
use Rattle.krb_calls.specs.Packed.{HoldsFrames, bytes_of}

-- one frame more
pub bytes-more : (fs : List (Vec ℕ)) (i : ℕ) (d : Vec ℕ) → i < length fs → bytes_of (take (suc i) fs) ≡ bytes_of (take i fs) ++ (get_or fs i d).items
bytes-more [] i d lt = absurd (omega (arith, lt))
bytes-more (f ∷ fs) zero d lt = append-nil f.items
bytes-more (f ∷ fs) (suc i) d lt =
    ap (λ (x : List ℕ). f.items ++ x) (bytes-more fs i d (omega (arith, lt))) ∙ sym (append_assoc f.items (bytes_of (take i fs)) (get_or fs i d).items)

-- and their length
pub length-more : (fs : List (Vec ℕ)) (i : ℕ) (d : Vec ℕ) → i < length fs
    → length (bytes_of (take (i + 1) fs)) ≡ length (bytes_of (take i fs)) + length (get_or fs i d).items
length-more fs i d lt =
    ap (λ (k : ℕ). length (bytes_of (take k fs))) (add-one i) ∙ ap length (bytes-more fs i d lt)
    ∙ length-append (bytes_of (take i fs)) (get_or fs i d).items

-- some of the frames are no longer than all
pub bytes-first : (fs : List (Vec ℕ)) (i : ℕ) → length (bytes_of (take i fs)) ≤ length (bytes_of fs)
bytes-first [] zero = omega arith
bytes-first [] (suc i) = omega arith
bytes-first (f ∷ fs) zero = omega arith
bytes-first (f ∷ fs) (suc i) = omega (arith, bytes-first fs i, length-append f.items (bytes_of (take i fs)), length-append f.items (bytes_of fs))

-- the first i frames and the next one have room where all have
pub room-more : (fs : List (Vec ℕ)) (i : ℕ) (d : Vec ℕ) → i < length fs → length (bytes_of (take i fs)) + length (get_or fs i d).items ≤ length (bytes_of fs)
room-more fs i d lt =
    omega (arith, ap length (bytes-more fs i d lt), length-append (bytes_of (take i fs)) (get_or fs i d).items, bytes-first fs (suc i))

-- the buffer begins with the first i frames, and each has its size at its index
pub record HoldsFirst (fs : List (Vec ℕ)) (i from : ℕ) (old new old_sizes new_sizes : List ℕ) : Type 0 where
  pub place : from ≡ length (bytes_of (take i fs))
  pub bytes : new ≡ bytes_of (take i fs) ++ drop from old
  pub sizes : (k : ℕ) → k < i → (f : Vec ℕ) → slice_get fs k ≡ Some f → slice_index new_sizes k ≡ length f.items
  pub others : (k : ℕ) → i ≤ k → slice_index new_sizes k ≡ slice_index old_sizes k

-- none yet
pub holds_none : (fs : List (Vec ℕ)) (old sizes : List ℕ) → HoldsFirst fs 0 0 old old sizes sizes
holds_none fs old sizes = record { place = refl; bytes = refl; sizes = λ k lt f e. absurd (omega (arith, lt)); others = λ k le. refl }

written : (p b old out made : List ℕ) (from : ℕ) → from ≡ length p → out ≡ p ++ drop from old → made ≡ take from out ++ (b ++ drop (from + length b) out)
    → made ≡ (p ++ b) ++ drop (from + length b) old
written p b old out made from place is made-is =
    let front : take from out ≡ p =
    ap (λ (x : List ℕ). take from x) is ∙ ap (λ (n : ℕ). take n (p ++ drop from old)) place ∙ take-append_seam p (drop from old) in
    let back : drop (from + length b) out ≡ drop (from + length b) old =
    ap (λ (x : List ℕ). drop (from + length b) x) is ∙ drop-append-drop from old p (from + length b) (omega arith) (sym place) in
    made-is ∙ ap (λ (x : List ℕ). x ++ (b ++ drop (from + length b) out)) front ∙ ap (λ (x : List ℕ). p ++ (b ++ x)) back
    ∙ sym (append_assoc p b (drop (from + length b) old))

-- one more
pub holds_more : (fs : List (Vec ℕ)) (i from : ℕ) (d : Vec ℕ) (old out made old_sizes sizes : List ℕ) (n : ℕ) → i < length fs → i < length sizes
    → HoldsFirst fs i from old out old_sizes sizes → n ≡ length (get_or fs i d).items
    → made ≡ take from out ++ ((get_or fs i d).items ++ drop (from + length (get_or fs i d).items) out)
    → HoldsFirst fs (i + 1) (from + n) old made old_sizes (set sizes i n)
holds_more fs i from d old out made old_sizes sizes n lt within h size is =
    let f = get_or fs i d in
    let p : List ℕ = bytes_of (take i fs) in
    let whole : bytes_of (take (i + 1) fs) ≡ p ++ f.items = ap (λ (k : ℕ). bytes_of (take k fs)) (add-one i) ∙ bytes-more fs i d lt in
    record {
      place = omega (arith, h.place, size, ap length whole, length-append p f.items);
      bytes = written p f.items old out made from h.place h.bytes is
          ∙ ap (λ (x : List ℕ). x ++ drop (from + length f.items) old) (sym whole)
          ∙ ap (λ (m : ℕ). bytes_of (take (i + 1) fs) ++ drop (from + m) old) (sym size);
      sizes = below_more (λ k. (g : Vec ℕ) → slice_get fs k ≡ Some g → slice_index (set sizes i n) k ≡ length g.items) i
          (λ k before g e. let ne : k ≢ i = omega arith in rw get_or-set_other (h.sizes k before g e))
          (λ g e. rw get_or-set_same (size ∙ ap (λ (x : Vec ℕ). length x.items) (get_or_from_slice_get fs i g d e)));
      others = λ k le. let ne : k ≢ i = omega arith in rw get_or-set_other (h.others k (omega (arith, le)));
    }

-- all
pub holds_all : (fs : List (Vec ℕ)) (i from : ℕ) (old new old_sizes sizes : List ℕ) → length fs ≤ i → HoldsFirst fs i from old new old_sizes sizes → i ≤ length fs
    → HoldsFrames fs old new old_sizes sizes
holds_all fs i from old new old_sizes sizes le h within =
    let whole : take i fs ≡ fs = take_all i fs le in
    let place : from ≡ length (bytes_of fs) = h.place ∙ ap (λ (x : List (Vec ℕ)). length (bytes_of x)) whole in
    record {
      bytes = h.bytes ∙ ap (λ (x : List (Vec ℕ)). bytes_of x ++ drop from old) whole ∙ ap (λ (n : ℕ). bytes_of fs ++ drop n old) place;
      sizes = λ k f e. h.sizes k (omega (arith, le, slice_get_within fs k f e)) f e;
      others = λ k more. h.others k (omega (arith, more, within));
    }
