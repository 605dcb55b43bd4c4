-- What a window does over any numbers, by induction on those that are offered.
use Rattle.std.proofs.Common.{◌≡◌, ◌≢◌, ℕ, ◌+◌, ◌≤◌, ◌⊎◌, max, List, [], ◌∷◌, Bool, true, false, suc, zero, refl, sym, subst, inl, inr, arith}
use Rattle.std.specs.List.{All, AllPairs, Contains}
use Rattle.std.proofs.lemmas.Bool.{cases_lt}
use Rattle.std.proofs.lemmas.List.Elements.{All-cons, All-contains, All-nil, Contains-append_cases, Contains-append_left, Contains-append_right, Contains-push}
use Rattle.std.proofs.lemmas.List.Kept.{AllPairs-cons}
use Rattle.krb_window.specs.declared.window.Window.{Window}
use Rattle.krb_window.specs.Window.{IsTaken, IsTooOld, Takes, TakesNoneBelow, window_size}
use Rattle.krb_window.specs.Laws.{Answers, AnswersAll, IsExact, Offer, TakenOnce, taken_of, with_taken}

abbrev IsPast : Window → ℕ → Type 0
IsPast w n = IsTaken w n ⊎ IsTooOld w n

-- ---- lists

in_head : (x : ℕ) (xs : List ℕ) → Contains (x ∷ xs) x
in_head x xs = Contains-append_left (x ∷ []) xs x (Contains-push [] x)

in_tail : (x : ℕ) (xs : List ℕ) (y : ℕ) → Contains xs y → Contains (x ∷ xs) y
in_tail x xs y h = Contains-append_right (x ∷ []) xs y h

single : (x y : ℕ) → Contains (x ∷ []) y → y ≡ x
single x y (zero, below, is) = sym is
single x y (suc k, below, is) = absurd (omega arith)

in_cases : (x : ℕ) (xs : List ℕ) (y : ℕ) → Contains (x ∷ xs) y → (y ≡ x) ⊎ Contains xs y
in_cases x xs y h = elim (Contains-append_cases (x ∷ []) xs y h) [ inl here ↦ inl (single x y here) | inr later ↦ inr later ]

-- ---- what was taken or is too old stays so

past_stays : (old mid : Window) (n : ℕ) (took : Bool) → Answers old n took mid → (m : ℕ) → IsPast old m → IsPast mid m
past_stays old mid n true a m (inl t) = a.kept m t
past_stays old mid n true a m (inr too_old) = inr (let top : mid.highest ≡ max old.highest n = a.highest in omega arith)
past_stays old mid n false a m past = subst (λ (w : Window). IsPast w m) (sym a.0) past

past_after : (old new : Window) (offers : List Offer) → AnswersAll old offers new → (m : ℕ) → IsPast old m → IsPast new m
past_after old new [] is m past = subst (λ (w : Window). IsPast w m) (sym is) past
past_after old new (offer ∷ offers) (mid, a, rest) m past = past_after mid new offers rest m (past_stays old mid offer.number offer.taken a m past)

not_past : (old mid : Window) (n : ℕ) → Takes old n mid → IsPast old n → ⊥
not_past old mid n a (inl t) = a.fresh t
not_past old mid n a (inr too_old) = a.recent too_old

-- ---- no number that was taken is taken again

-- none of the numbers that are taken was taken before
past_apart : (old mid : Window) (m n : ℕ) (ns : List ℕ) (took : Bool) → Answers old m took mid → IsPast old n → All (λ k. n ≢ k) ns → All (λ k. n ≢ k) (with_taken took m ns)
past_apart old mid m n ns true t past later = All-cons (λ k. n ≢ k) m ns (λ same. not_past old mid m t (subst (IsPast old) same past)) later
past_apart old mid m n ns false t past later = later

none_past : (old new : Window) (offers : List Offer) → AnswersAll old offers new → (n : ℕ) → IsPast old n → All (λ m. n ≢ m) (taken_of offers)
none_past old new [] is n past = All-nil (λ m. n ≢ m)
none_past old new (offer ∷ offers) (mid, a, rest) n past =
    past_apart old mid offer.number n (taken_of offers) offer.taken a past (none_past mid new offers rest n (past_stays old mid offer.number offer.taken a n past))

once_more : (old mid new : Window) (m : ℕ) (took : Bool) (offers : List Offer) → Answers old m took mid → AnswersAll mid offers new → AllPairs (λ j k. j ≢ k) (taken_of offers)
    → AllPairs (λ j k. j ≢ k) (with_taken took m (taken_of offers))
once_more old mid new m true offers t rest later = AllPairs-cons (λ j k. j ≢ k) m (taken_of offers) (none_past mid new offers rest m (inl t.is_in)) later
once_more old mid new m false offers t rest later = later

pub taken_once : TakenOnce
taken_once old new [] is = λ i j d below short. absurd (omega arith)
taken_once old new (offer ∷ offers) (mid, a, rest) = once_more old mid new offer.number offer.taken offers a rest (taken_once mid new offers rest)

-- ---- a window's numbers are those that were taken

past_or_later : (old mid new : Window) (m n : ℕ) (took : Bool) (offers : List Offer) → Answers old m took mid → AnswersAll mid offers new → (Contains (taken_of offers) n → IsPast new n)
    → Contains (with_taken took m (taken_of offers)) n → IsPast new n
past_or_later old mid new m n false offers t rest later h = later h
past_or_later old mid new m n true offers t rest later h = elim (in_cases m (taken_of offers) n h) [
  | inl same ↦ past_after mid new offers rest n (subst (IsPast mid) (sym same) (inl t.is_in))
  | inr there ↦ later there
]

past_of_taken : (old new : Window) (offers : List Offer) → AnswersAll old offers new → (n : ℕ) → Contains (taken_of offers) n → IsPast new n
past_of_taken old new [] is n (k, below, same) = absurd (omega arith)
past_of_taken old new (offer ∷ offers) (mid, a, rest) n within =
    past_or_later old mid new offer.number n offer.taken offers a rest (past_of_taken mid new offers rest n) within

-- what is in the list of those taken later is in the whole
in_later : (took : Bool) (m : ℕ) (ns : List ℕ) (n : ℕ) → Contains ns n → Contains (with_taken took m ns) n
in_later true m ns n h = in_tail m ns n h
in_later false m ns n h = h

-- what is in the new window was in the old one, or was taken
in_one : (old mid : Window) (m n : ℕ) (took : Bool) (ns : List ℕ) → Answers old m took mid → IsTaken mid n → IsTaken old n ⊎ Contains (with_taken took m ns) n
in_one old mid m n false ns t now = inl (subst (λ (w : Window). IsTaken w n) t.0 now)
in_one old mid m n true ns t now = elim (t.only n now) [ inl same ↦ inr (subst (λ (k : ℕ). Contains (k ∷ ns) n) same (in_head n ns)) | inr before ↦ inl before ]

taken_in : (old new : Window) (offers : List Offer) → AnswersAll old offers new → (n : ℕ) → IsTaken new n → IsTaken old n ⊎ Contains (taken_of offers) n
taken_in old new [] is n t = inl (subst (λ (w : Window). IsTaken w n) is t)
taken_in old new (offer ∷ offers) (mid, a, rest) n t = elim (taken_in mid new offers rest n t) [
  | inl now ↦ in_one old mid offer.number n offer.taken (taken_of offers) a now
  | inr later ↦ inr (in_later offer.taken offer.number (taken_of offers) n later)
]

-- the highest number is no higher than before, or was taken
highest_one : (old mid : Window) (m : ℕ) (took : Bool) (ns : List ℕ) → Answers old m took mid → (top : ℕ) → top ≤ mid.highest → (top ≤ old.highest) ⊎ ((k : ℕ) × Contains (with_taken took m ns) k × (top ≤ k))
highest_one old mid m false ns t top low = inl (subst (λ (w : Window). top ≤ w.highest) t.0 low)
highest_one old mid m true ns t top low = elim (cases_lt old.highest top) [
  | inl above ↦ inr (m, in_head m ns, (let is : mid.highest ≡ max old.highest m = t.highest in omega arith))
  | inr below ↦ inl below
]

highest_of : (old new : Window) (offers : List Offer) → AnswersAll old offers new → (new.highest ≤ old.highest) ⊎ ((k : ℕ) × Contains (taken_of offers) k × (new.highest ≤ k))
highest_of old new [] is = inl (subst (λ (w : Window). w.highest ≤ old.highest) (sym is) (omega arith))
highest_of old new (offer ∷ offers) (mid, a, rest) = elim (highest_of mid new offers rest) [
  | inl low ↦ highest_one old mid offer.number offer.taken (taken_of offers) a new.highest low
  | inr (k, later, above) ↦ inr (k, in_later offer.taken offer.number (taken_of offers) k later, above)
]

or_taken : (first n : ℕ) (w : Window) (ns : List ℕ) → TakesNoneBelow first w → first ≤ n → IsTaken w n ⊎ Contains ns n → Contains ns n
or_taken first n w ns start above (inl before) = absurd (start.above n above before)
or_taken first n w ns start above (inr taken) = taken

far_below : (first n top : ℕ) (w : Window) (ns : List ℕ) → TakesNoneBelow first w → first ≤ n → n + window_size ≤ top → (top ≤ w.highest) ⊎ ((k : ℕ) × Contains ns k × (top ≤ k))
    → (k : ℕ) × Contains ns k × (n + window_size ≤ k)
far_below first n top w ns start above far (inl low) = absurd (let is : w.highest ≤ first = start.highest in omega arith)
far_below first n top w ns start above far (inr (k, within, over)) = (k, within, omega arith)

never : (n : ℕ) (ns : List ℕ) → All (λ m. n ≢ m) ns → Contains ns n → ⊥
never n ns none there = All-contains (λ m. n ≢ m) ns n none there refl

pub is_exact : IsExact
is_exact first old new offers start all = (
  past_of_taken old new offers all,
  λ n above t. or_taken first n old (taken_of offers) start above (taken_in old new offers all n t),
  λ n above far. far_below first n new.highest old (taken_of offers) start above far (highest_of old new offers all),
  λ n below. (past_after old new offers all n (start.below n below), never n (taken_of offers) (none_past old new offers all n (start.below n below))),
)
