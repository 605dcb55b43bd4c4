-- The groups of texts.
use Rattle.std.proofs.Common.{◌≡◌, ◌≢◌, ℕ, zero, suc, ◌+◌, ◌<◌, ◌≤◌, max, Bool, true, false, nat_lt, nat_le, List, [], ◌∷◌, ◌++◌, length, take, drop, map, refl, sym, ap, ap₂, subst, ◌∙◌, append_assoc, arith, length-append, inl, inr, if◌then◌else◌}
use Rattle.std.specs.Prelude.{All, ◌⊎◌}
use Rattle.std.specs.List.{flat_map}
use Rattle.std.proofs.lemmas.Bool.{and_parts, cases_lt, ltb-true, leb-true, lt-ltb, le-leb}
use Rattle.std.proofs.lemmas.List.{take_at, drop_at, drop-drop, take-take, length-take, take-append-drop}
use Rattle.std.proofs.lemmas.List.Elements.{All-nil, All-cons}
use Rattle.std.proofs.lemmas.List.Sums.{sum_by-take-le}
use Rattle.krb_base.specs.Limits.{batch_limit, batch_size_limit}
use Rattle.krb_record.specs.Batch.{texts_size, IsBatch}
use Rattle.krb_record.specs.Groups.{Fits, IsLongest, IsFirstGroup, AreGroups, takes, groups_from, groups}
use Rattle.krb_record.proofs.BatchLemmas.{text_size, same_parts}

by_test : (P : Bool → Type 0) (b : Bool) → (b ≡ true → P true) → (b ≡ false → P false) → P b
by_test P true on off = on refl
by_test P false on off = off refl

-- a shorter prefix takes no more bytes
pub fewer : (m n : ℕ) (texts : List (List ℕ)) → m ≤ n → texts_size (take m texts) ≤ texts_size (take n texts)
fewer m n texts le =
    let same : texts_size (take m (take n texts)) ≡ texts_size (take m texts) = ap texts_size (take-take m n texts le) in
    omega (arith, same, sum_by-take-le text_size (take n texts) m)

-- a prefix that fits, where one text more doesn't, is the longest
pub longest_here : (b : ℕ) (texts : List (List ℕ)) (n : ℕ) → Fits b texts n → (Fits b texts (n + 1) → ⊥) → IsLongest b texts n
longest_here b texts n fits stop = (
  fits,
  λ m f.
      elim (cases_lt n m) [
        | inl lt ↦
            let there = f.there in
            let few = f.few in
            let small = f.small in
            absurd (stop (record { there = omega (arith, lt, there); few = omega (arith, lt, few); small = omega (arith, small, fewer (n + 1) m texts (omega (arith, lt))) }))
        | inr le ↦ le
      ],
)

one_longest : (b : ℕ) (texts : List (List ℕ)) (m n : ℕ) → IsLongest b texts m → IsLongest b texts n → m ≡ n
one_longest b texts m n p q =
    let le = q.1 m p.0 in
    let ge = p.1 n q.0 in
    omega (arith, le, ge)

one_first : (b : ℕ) (texts : List (List ℕ)) (m n : ℕ) → IsFirstGroup b texts m → IsFirstGroup b texts n → m ≡ n
one_first b texts m n p q = p.2 ∙ (ap (λ k. max 1 k) (one_longest b texts p.0 q.0 p.1 q.1) ∙ sym q.2)

-- ---- the list of groups

-- at most one
pub one_grouping : (b : ℕ) (texts : List (List ℕ)) (parts others : List (List (List ℕ))) → AreGroups b texts parts → AreGroups b texts others → parts ≡ others
one_grouping b texts [] [] p q = refl
one_grouping b texts [] (h ∷ hs) p q =
    let e : length texts ≡ 0 = ap length p in
    let f : length texts ≡ length (h ++ q.0) = ap length q.1 in
    let first = q.2.2 in
    absurd (omega (arith, e, f, first, length-append h q.0))
one_grouping b texts (g ∷ gs) [] p q =
    let e : length texts ≡ 0 = ap length q in
    let f : length texts ≡ length (g ++ p.0) = ap length p.1 in
    let first = p.2.2 in
    absurd (omega (arith, e, f, first, length-append g p.0))
one_grouping b texts (g ∷ gs) (h ∷ hs) p q =
    let len : length g ≡ length h = one_first b texts (length g) (length h) p.2 q.2 in
    let same = same_parts g h p.0 q.0 len (sym p.1 ∙ q.1) in
    ap₂ (λ x xs. x ∷ xs) same.0 (one_grouping b q.0 gs hs (subst (λ rest. AreGroups b rest gs) same.1 p.3) q.3)

-- a group that was begun: it fits, or is one text
record IsBegun (b : ℕ) (group : List (List ℕ)) : Type 0 where
  some : 1 ≤ length group
  fits : ((length group ≤ b) × (texts_size group ≤ batch_size_limit)) ⊎ (length group ≡ 1)

-- the texts that a group takes in, and those it doesn't
takes_more : (b : ℕ) (group : List (List ℕ)) (text : List ℕ) → takes b group text ≡ true → IsBegun b (group ++ text ∷ [])
takes_more b group text is =
    let both = and_parts (nat_lt (length group) b) (nat_le (texts_size (group ++ text ∷ [])) batch_size_limit) is in
    let lt = ltb-true (length group) b both.0 in
    let n = length-append group (text ∷ []) in
    record { some = omega (arith, n); fits = inl (omega (arith, n, lt), leb-true (texts_size (group ++ text ∷ [])) batch_size_limit both.1) }

takes_none : (b : ℕ) (group : List (List ℕ)) (text : List ℕ) (following : List (List ℕ)) → takes b group text ≡ false → Fits b (group ++ text ∷ following) (length group + 1) → ⊥
takes_none b group text following is f =
    let few = f.few in
    let small = f.small in
    let n = length-append group (text ∷ []) in
    let front : take (length group + 1) (group ++ text ∷ following) ≡ group ++ text ∷ [] =
    ap (λ l. take (length group + 1) l) (sym (append_assoc group (text ∷ []) following)) ∙ take_at (group ++ text ∷ []) following (length group + 1) n in
    let size : texts_size (take (length group + 1) (group ++ text ∷ following)) ≡ texts_size (group ++ text ∷ []) = ap texts_size front in
    let lt = lt-ltb (length group) b (omega (arith, few)) in
    let le = le-leb (texts_size (group ++ text ∷ [])) batch_size_limit (omega (arith, size, small)) in
    let yes : takes b group text ≡ true = rw (lt, le) refl in
    let no = sym yes ∙ is in
    absurd cc

-- what was begun is the first group, where no more fits
first_begun : (b : ℕ) (group following : List (List ℕ)) → IsBegun b group → (Fits b (group ++ following) (length group + 1) → ⊥) → IsFirstGroup b (group ++ following) (length group)
first_begun b group following begun stop =
    by_fits (cases_lt b (length group)) (cases_lt batch_size_limit (texts_size group))
  where
    n : length (group ++ following) ≡ length group + length following
    n = length-append group following

    size : texts_size (take (length group) (group ++ following)) ≡ texts_size group
    size = ap texts_size (take_at group following (length group) refl)

    whole : length group ≤ b → texts_size group ≤ batch_size_limit → IsFirstGroup b (group ++ following) (length group)
    whole few small =
        let some = begun.some in
        (length group, longest_here b (group ++ following) (length group) (record { there = omega (arith, n); few = few; small = omega (arith, size, small) }) stop, omega (arith, some))

    -- one text, which doesn't fit
    alone : length group ≡ 1 → (Fits b (group ++ following) 1 → ⊥) → IsFirstGroup b (group ++ following) (length group)
    alone one none =
        (0, longest_here b (group ++ following) 0 (record { there = omega arith; few = omega arith; small = omega arith }) none, omega (arith, one))

    too_many : b < length group → IsFirstGroup b (group ++ following) (length group)
    too_many lt =
        elim begun.fits [
          | inl f ↦ let few = f.0 in absurd (omega (arith, lt, few))
          | inr one ↦ alone one (λ f. let few = f.few in omega (arith, few, lt, one))
        ]

    too_large : batch_size_limit < texts_size group → IsFirstGroup b (group ++ following) (length group)
    too_large lt =
        elim begun.fits [
          | inl f ↦ let small = f.1 in absurd (omega (arith, lt, small))
          | inr one ↦
              alone one (λ f.
              let small = f.small in
              let same : texts_size (take (length group) (group ++ following)) ≡ texts_size (take 1 (group ++ following)) = ap (λ k. texts_size (take k (group ++ following))) one in
              omega (arith, small, lt, same, size))
        ]

    by_fits : (b < length group) ⊎ (length group ≤ b) → (batch_size_limit < texts_size group) ⊎ (texts_size group ≤ batch_size_limit) → IsFirstGroup b (group ++ following) (length group)
    by_fits (inl lt) s = too_many lt
    by_fits (inr le) (inl lt) = too_large lt
    by_fits (inr le) (inr small) = whole le small

begun_alone : (b : ℕ) (text : List ℕ) → IsBegun b (text ∷ [])
begun_alone b text = record { some = omega arith; fits = inr refl }

from_are : (b : ℕ) (group texts : List (List ℕ)) → IsBegun b group → AreGroups b (group ++ texts) (groups_from b group texts)
from_are b group [] begun = (
  [],
  refl,
  first_begun b group [] begun (λ f. let there = f.there in omega (arith, there, length-append group [])),
  refl,
)
from_are b group (t ∷ ts) begun =
    by_test
    (λ r. AreGroups b (group ++ t ∷ ts) (if r then groups_from b (group ++ t ∷ []) ts else group ∷ groups_from b (t ∷ []) ts))
    (takes b group t)
    (λ is. subst (λ l. AreGroups b l (groups_from b (group ++ t ∷ []) ts)) (append_assoc group (t ∷ []) ts) (from_are b (group ++ t ∷ []) ts (takes_more b group t is)))
    (λ is. (t ∷ ts, refl, first_begun b group (t ∷ ts) begun (takes_none b group t ts is), from_are b (t ∷ []) ts (begun_alone b t)))

-- the function gives groups
pub groups_are : (b : ℕ) (texts : List (List ℕ)) → AreGroups b texts (groups b texts)
groups_are b [] = refl
groups_are b (t ∷ ts) = from_are b (t ∷ []) ts (begun_alone b t)

-- ---- what groups are

pub joined : (b : ℕ) (texts : List (List ℕ)) (parts : List (List (List ℕ))) → AreGroups b texts parts → flat_map (λ group. group) parts ≡ texts
joined b texts [] h = sym h
joined b texts (g ∷ gs) h = ap (λ l. g ++ l) (joined b h.0 gs h.3) ∙ sym h.1

pub sizes : (b : ℕ) (texts : List (List ℕ)) (parts : List (List (List ℕ))) → 1 ≤ b → AreGroups b texts parts → All (λ group. (1 ≤ length group) × (length group ≤ b)) parts
sizes b texts [] le h = All-nil (λ group. (1 ≤ length group) × (length group ≤ b))
sizes b texts (g ∷ gs) le h =
    let is = h.2.2 in
    let few = h.2.1.0.few in
    All-cons (λ group. (1 ≤ length group) × (length group ≤ b)) g gs (omega (arith, is), omega (arith, is, few, le)) (sizes b h.0 gs le h.3)

-- a first group of two or more texts is no larger than a batch
pub first_is_small : (b n : ℕ) (texts : List (List ℕ)) → IsFirstGroup b texts n → 2 ≤ n → (n ≤ b) × (texts_size (take n texts) ≤ batch_size_limit)
first_is_small b n texts first several =
    let fits = first.1.0 in
    let few = fits.few in
    let small = fits.small in
    let same : first.0 ≡ n = let is = first.2 in omega (arith, is, several) in
    let size : texts_size (take first.0 texts) ≡ texts_size (take n texts) = ap (λ k. texts_size (take k texts)) same in
    (omega (arith, few, same), omega (arith, small, size))

pub first_is_some : (b n : ℕ) (texts : List (List ℕ)) → IsFirstGroup b texts n → 1 ≤ length texts → (1 ≤ n) × (n ≤ length texts)
first_is_some b n texts first some =
    let is = first.2 in
    let there = first.1.0.there in
    (omega (arith, is), omega (arith, is, there, some))

-- and so each group
pub small_groups : (b : ℕ) (texts : List (List ℕ)) (parts : List (List (List ℕ))) → AreGroups b texts parts
    → All (λ group. (1 ≤ length group) × (2 ≤ length group → (length group ≤ b) × (texts_size group ≤ batch_size_limit))) parts
small_groups b texts [] h = All-nil (λ group. (1 ≤ length group) × (2 ≤ length group → (length group ≤ b) × (texts_size group ≤ batch_size_limit)))
small_groups b texts (g ∷ gs) h =
    let front : take (length g) texts ≡ g = ap (λ l. take (length g) l) h.1 ∙ take_at g h.0 (length g) refl in
    let size : texts_size (take (length g) texts) ≡ texts_size g = ap texts_size front in
    let is = h.2.2 in
    All-cons (λ group. (1 ≤ length group) × (2 ≤ length group → (length group ≤ b) × (texts_size group ≤ batch_size_limit))) g gs
    (omega (arith, is), λ several. let two = first_is_small b (length g) texts h.2 several in (two.0, let s = two.1 in omega (arith, s, size)))
    (small_groups b h.0 gs h.3)

pub batches : (b : ℕ) (texts : List (List ℕ)) (parts : List (List (List ℕ))) → b ≤ batch_limit → AreGroups b texts parts → All (λ group. 2 ≤ length group → IsBatch group) parts
batches b texts parts le h k d below several =
    let two = (small_groups b texts parts h k d below).1 several in
    let few = two.0 in
    record { several = several; few = omega (arith, few, le); small = two.1 }

pub single : (texts : List (List ℕ)) → groups 1 texts ≡ map (λ text. text ∷ []) texts
single [] = refl
single (t ∷ ts) = single_from t ts
  where
    single_from : (text : List ℕ) (following : List (List ℕ)) → groups_from 1 (text ∷ []) following ≡ (text ∷ []) ∷ map (λ x. x ∷ []) following
    single_from text [] = refl
    single_from text (x ∷ xs) = ap (λ parts. (text ∷ []) ∷ parts) (single_from x xs)

some_text : (texts : List (List ℕ)) → texts ≢ [] → 1 ≤ length texts
some_text [] h = absurd (h refl)
some_text (t ∷ ts) h = omega arith

pub next_groups : (b n : ℕ) (texts : List (List ℕ)) → texts ≢ [] → IsFirstGroup b texts n → groups b texts ≡ take n texts ∷ groups b (drop n texts)
next_groups b n texts some first =
    let is = first.2 in
    let there = first.1.0.there in
    let len : n ≡ length (take n texts) = omega (arith, length-take n texts, is, there, some_text texts some) in
    one_grouping b texts (groups b texts) (take n texts ∷ groups b (drop n texts)) (groups_are b texts)
    (drop n texts, sym (take-append-drop n texts), subst (λ k. IsFirstGroup b texts k) len first, groups_are b (drop n texts))

-- after the first k groups stand the groups of the texts after them
after_parts : (b k : ℕ) (texts : List (List ℕ)) (parts : List (List (List ℕ))) → AreGroups b texts parts
    → AreGroups b (drop (length (flat_map (λ group. group) (take k parts))) texts) (drop k parts)
after_parts b zero texts parts are = are
after_parts b (suc k) texts [] are = are_none are
  where
    are_none : texts ≡ [] → drop 0 texts ≡ []
    are_none e = e
after_parts b (suc k) texts (g ∷ gs) are =
    let passed : List (List ℕ) = flat_map (λ group. group) (take k gs) in
    let n : length (g ++ passed) ≡ length g + length passed = length-append g passed in
    let following : drop (length (g ++ passed)) texts ≡ drop (length passed) are.0 =
    ap₂ (λ m l. drop m l) n are.1 ∙ (sym (drop-drop (length passed) (length g) (g ++ are.0)) ∙ ap (λ l. drop (length passed) l) (drop_at g are.0 (length g) refl)) in
    subst (λ l. AreGroups b l (drop k gs)) (sym following) (after_parts b k are.0 gs are.3)

pub groups_after : (b k : ℕ) (texts : List (List ℕ)) → groups b (drop (length (flat_map (λ group. group) (take k (groups b texts)))) texts) ≡ drop k (groups b texts)
groups_after b k texts =
    let rest = drop (length (flat_map (λ group. group) (take k (groups b texts)))) texts in
    one_grouping b rest (groups b rest) (drop k (groups b texts)) (groups_are b rest) (after_parts b k texts (groups b texts) (groups_are b texts))
