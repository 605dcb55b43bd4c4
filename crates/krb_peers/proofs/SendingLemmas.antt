-- The records and the frames of a sender, one after another.
use Rattle.std.proofs.Common.{◌≡◌, ◌≢◌, ℕ, zero, suc, ◌+◌, ◌-◌, ◌*◌, ◌<◌, ◌≤◌, min, List, [], ◌∷◌, ◌++◌, length, take, drop, get_or, slice_get, Some, None, Result, Ok, Err, IfOk, IfErr, OnOk, true, false, nat_le, All, ◌⊎◌, inl, inr, refl, sym, ap, ap₂, subst, ◌∙◌, arith, length-append}
use Rattle.std.specs.Prelude.{slice_index_or}
use Rattle.std.proofs.lemmas.Option.{slice_get_within}
use Rattle.std.proofs.lemmas.List.{get_or_read, get_or_past, take_at, drop_at, drop_all, length-drop}
use Rattle.rand_chacha.specs.ChaCha.{ChaCha}
use Rattle.std.specs.List.{list_all}
use Rattle.std.proofs.lemmas.Bool.{and_parts, cases_lt, leb-true, lt-ltb, le-ltb}
use Rattle.std.proofs.lemmas.List.Elements.{All-nil, All-cons, All-head, All-take, All-drop}
use Rattle.krb_base.specs.Limits.{last_number, user_data_limit, text_limit, batch_limit}
use Rattle.krb_record.specs.Batch.{IsBatch}
use Rattle.krb_record.specs.Groups.{IsFirstGroup, AreGroups, groups}
use Rattle.krb_record.proofs.GroupLemmas.{groups_are, groups_after, next_groups, joined, small_groups, first_is_small, first_is_some}
use Rattle.krb_seal.specs.declared.seal_error.SealError.{SealError}
use Rattle.krb_seal.specs.declared.seal_error.SealError.TheVariants.{Wiped, TooLong, Exhausted, Memory}
use Rattle.krb_seal.specs.Sealer.{SealerState, SealsNext, end_of_numbers}
use Rattle.krb_record.specs.declared.record.Record.{Record}
use Rattle.krb_record.specs.declared.record.Record.TheVariants.{Close}
use Rattle.krb_record.specs.Record.{bytes_of, FitsLimits, record_for}
use Rattle.krb_peers.specs.Draws.{after_words, confounder_at}
use Rattle.krb_peers.specs.Sender.{Source, IsWithinLimits, text_groups, texts_of_groups, sealed_count, sealed_groups, group_after, texts_before, record_at, records_for, records, IsFrame, AreFrames}
use Rattle.krb_peers.specs.Moments.{moment_at}
use Rattle.krb_peers.specs.Sending.{before, source_after, HasSealed, StandsAfterSome}
use Rattle.krb_peers.proofs.DrawsLemmas.{confounder_at-later, after_words-add}
use Rattle.krb_peers.proofs.ListLemmas.{slice_get-front, slice_get-end, lt_or_same, slice_get-take, take-below, length-take, get_or-take}

length-records_for : (groups : List (List (List ℕ))) → length (records_for groups) ≡ length groups + 1
length-records_for [] = omega arith
length-records_for (g ∷ groups) = omega (arith, length-records_for groups)

-- so many records: those of the groups that are sealed, and the close
pub length-records : (source : Source) → length (records source) ≡ length (sealed_groups source) + 1
length-records source = length-records_for (sealed_groups source)

pub record_there : (groups : List (List (List ℕ))) (k : ℕ) (r : Record) → k < length groups → slice_get (records_for groups) k ≡ Some r → r ≡ record_for (get_or groups k [])
record_there [] k r h at = absurd (omega arith)
record_there (g ∷ groups) zero r h at = (let e : record_for g ≡ r = cc in sym e)
record_there (g ∷ groups) (suc k) r h at = record_there groups k r (omega arith) at

pub close_there : (groups : List (List (List ℕ))) (k : ℕ) (r : Record) → length groups ≤ k → slice_get (records_for groups) k ≡ Some r → r ≡ Close
close_there [] zero r h at = (let e : Close ≡ r = cc in sym e)
close_there [] (suc k) r h at = absurd (let e : None ≡ Some r = at in cc)
close_there (g ∷ groups) zero r h at = absurd (omega arith)
close_there (g ∷ groups) (suc k) r h at = close_there groups k r (omega arith) at

-- a group of texts comes at each number below the last, and at the last the close
at_open : (number : ℕ) (group : List (List ℕ)) → 1 ≤ length group → number < last_number → record_for group ≡ record_at number group
at_open number [] some below = absurd (omega (arith, some))
at_open number (text ∷ texts) some below = rw (lt-ltb number last_number below) refl

at_last : (number : ℕ) (group : List (List ℕ)) → last_number ≤ number → Close ≡ record_at number group
at_last number [] last = refl
at_last number (text ∷ texts) last = rw (le-ltb number last_number last) refl

pub groups_of_source : (source : Source) → AreGroups source.batch source.texts (text_groups source)
groups_of_source source = groups_are source.batch source.texts

-- record k of a sender that sealed k of them before: that of group k at this number
pub record_is : (source : Source) (k : ℕ) (r : Record) → k ≤ source.sealer.next → source.sealer.next ≤ last_number
    → slice_get (records (before k source)) k ≡ Some r → r ≡ record_at source.sealer.next (get_or (text_groups source) k [])
record_is source k r begun small at =
    let all = text_groups source in
    let m = sealed_count (source.sealer.next - k) (length all) in
    let count = length-take m all in
    let within = slice_get_within (records_for (take m all)) k r at in
    let many = length-records_for (take m all) in
    elim (cases_lt k m) [
      | inl below ↦
          let there : k < length (take m all) = omega (arith, below, count) in
          let left : source.sealer.next < last_number = omega (arith, below, begun) in
          let some : 1 ≤ length (get_or all k []) = (small_groups source.batch source.texts all (groups_of_source source) k [] (omega (arith, below))).0 in
          record_there (take m all) k r there at ∙ (ap record_for (get_or-take m k all [] below) ∙ at_open source.sealer.next (get_or all k []) some left)
      | inr past ↦
          let closes : r ≡ Close = close_there (take m all) k r (omega (arith, past, count)) at in
          closes ∙ closes_at (cases_lt k (length all)) (omega (arith, past, within, many, count))
    ]
  where
    closes_at : (k < length (text_groups source)) ⊎ (length (text_groups source) ≤ k) → k ≡ sealed_count (source.sealer.next - k) (length (text_groups source))
        → Close ≡ record_at source.sealer.next (get_or (text_groups source) k [])
    closes_at (inl below) same = at_last source.sealer.next (get_or (text_groups source) k []) (omega (arith, below, same, begun, small))
    closes_at (inr past) same = ap (λ g. record_at source.sealer.next g) (sym (get_or_past (text_groups source) k [] past))

-- ---- the texts that are passed

module _ (source : Source) (k passed : ℕ) (stands : passed ≡ texts_before k source) where
  -- after the texts of k groups come the other groups
  pub groups_left : groups source.batch (drop passed source.texts) ≡ drop k (text_groups source)
  groups_left = ap (λ n. groups source.batch (drop n source.texts)) stands ∙ groups_after source.batch k source.texts

  -- group k comes next
  pub group_is : group_after passed source ≡ get_or (text_groups source) k []
  group_is = ap (λ gs. slice_index_or gs 0 []) groups_left ∙ head_of (text_groups source) k
    where
      head_of : (gs : List (List (List ℕ))) (j : ℕ) → slice_index_or (drop j gs) 0 [] ≡ get_or gs j []
      head_of [] zero = refl
      head_of [] (suc j) = refl
      head_of (g ∷ gs) zero = refl
      head_of (g ∷ gs) (suc j) = head_of gs j

  -- with a group more, its texts are passed
  pub passed_more : passed + length (group_after passed source) ≡ texts_before (k + 1) source
  passed_more =
      ap₂ (λ a b. a + length b) stands group_is ∙ texts_more (text_groups source) k
    where
      texts_more : (gs : List (List (List ℕ))) (j : ℕ) → length (texts_of_groups (take j gs)) + length (get_or gs j []) ≡ length (texts_of_groups (take (j + 1) gs))
      texts_more [] zero = refl
      texts_more [] (suc j) =
          let more : suc j + 1 ≡ suc (j + 1) = omega arith in
          ap (λ n. length (texts_of_groups (take {A = List (List ℕ)} n []))) (sym more)
      texts_more (g ∷ gs) zero = omega (arith, length-append g [])
      texts_more (g ∷ gs) (suc j) =
          let more : suc j + 1 ≡ suc (j + 1) = omega arith in
          let next : length (texts_of_groups (take (suc j + 1) (g ∷ gs))) ≡ length (texts_of_groups (take (suc (j + 1)) (g ∷ gs))) = ap (λ n. length (texts_of_groups (take n (g ∷ gs)))) more in
          omega (arith, next, texts_more gs j, length-append g (texts_of_groups (take j gs)), length-append g (texts_of_groups (take (j + 1) gs)))

  -- the texts of groups are among the texts
  pub passed_within : passed ≤ length source.texts
  passed_within =
      let whole : length (texts_of_groups (text_groups source)) ≡ length source.texts = ap length (joined source.batch source.texts (text_groups source) (groups_of_source source)) in
      let fewer = texts_fewer (text_groups source) k in
      let at = stands in
      omega (arith, whole, fewer, at)
    where
      texts_fewer : (gs : List (List (List ℕ))) (j : ℕ) → length (texts_of_groups (take j gs)) ≤ length (texts_of_groups gs)
      texts_fewer gs zero = omega arith
      texts_fewer [] (suc j) = omega arith
      texts_fewer (g ∷ gs) (suc j) = omega (arith, texts_fewer gs j, length-append g (texts_of_groups (take j gs)), length-append g (texts_of_groups gs))

  -- where texts are left, so is a group, and where none is, none
  pub group_left : passed < length source.texts → k < length (text_groups source)
  group_left below =
      let rest = drop passed source.texts in
      let some : 1 ≤ length rest = omega (arith, length-drop passed source.texts, below) in
      left_by (cases_lt k (length (text_groups source))) some
    where
      left_by : (k < length (text_groups source)) ⊎ (length (text_groups source) ≤ k) → 1 ≤ length (drop passed source.texts) → k < length (text_groups source)
      left_by (inl lt) some = lt
      left_by (inr past) some =
          let none : groups source.batch (drop passed source.texts) ≡ [] = groups_left ∙ drop_all k (text_groups source) past in
          let texts : [] ≡ drop passed source.texts = ap texts_of_groups (sym none) ∙ joined source.batch (drop passed source.texts) (groups source.batch (drop passed source.texts)) (groups_are source.batch (drop passed source.texts)) in
          let n : 0 ≡ length (drop passed source.texts) = ap length texts in
          absurd (omega (arith, some, n))

  pub none_left_of : length source.texts ≤ passed → length (text_groups source) ≤ k
  none_left_of past =
      let none : drop passed source.texts ≡ [] = drop_all passed source.texts past in
      let left : drop k (text_groups source) ≡ [] = sym groups_left ∙ ap (λ l. groups source.batch l) none in
      let n : length (drop k (text_groups source)) ≡ 0 = ap length left in
      omega (arith, n, length-drop k (text_groups source))

-- ---- a group is within its limits

fits_by : (group : List (List ℕ)) → 1 ≤ length group → All (λ text. length text ≤ text_limit) group → (2 ≤ length group → IsBatch group) → FitsLimits (record_for group)
fits_by [] some short batch = absurd (omega (arith, some))
fits_by (text ∷ []) some short batch = All-head (λ t. length t ≤ text_limit) text [] short
fits_by (text ∷ other ∷ texts) some short batch = batch (omega arith)

pub first_fits : (b n : ℕ) (texts : List (List ℕ)) → 1 ≤ length texts → IsFirstGroup b texts n → b ≤ batch_limit → All (λ text. length text ≤ text_limit) texts → FitsLimits (record_for (take n texts))
first_fits b n texts some first few short =
    let is = first_is_some b n texts first some in
    let low = is.0 in
    let high = is.1 in
    let len = length-take n texts in
    fits_by (take n texts) (omega (arith, low, high, len)) (All-take (λ t. length t ≤ text_limit) n texts short) (λ several.
    let two = first_is_small b n texts first (omega (arith, several, len)) in
    let most = two.0 in
    record { several = several; few = omega (arith, most, few, len); small = two.1 })

pub groups_fit : (b : ℕ) (texts : List (List ℕ)) (parts : List (List (List ℕ))) → AreGroups b texts parts → b ≤ batch_limit → All (λ text. length text ≤ text_limit) texts → All (λ group. FitsLimits (record_for group)) parts
groups_fit b texts [] are few short = All-nil (λ group. FitsLimits (record_for group))
groups_fit b texts (g ∷ gs) are few short =
    let front : take (length g) texts ≡ g = ap (λ l. take (length g) l) are.1 ∙ take_at g are.0 (length g) refl in
    let back : drop (length g) texts ≡ are.0 = ap (λ l. drop (length g) l) are.1 ∙ drop_at g are.0 (length g) refl in
    let is = are.2.2 in
    let n : length texts ≡ length (g ++ are.0) = ap length are.1 in
    let some : 1 ≤ length texts = omega (arith, is, n, length-append g are.0) in
    let P : List (List ℕ) → Type 0 = λ x. FitsLimits (record_for x) in
    let Q : List (List ℕ) → Type 0 = λ x. All (λ t. length t ≤ text_limit) x in
    All-cons (λ group. FitsLimits (record_for group)) g gs
    (subst P front (first_fits b (length g) texts some are.2 few short))
    (groups_fit b are.0 gs are.3 few (subst Q back (All-drop (λ t. length t ≤ text_limit) (length g) texts short)))

-- ---- one frame more

pub AreFrames-push : (source : Source) (k : ℕ) (frames : List (List ℕ)) (frame : List ℕ) → k < length (records source) → AreFrames source (take k (records source)) frames
    → ((r : Record) → slice_get (records source) k ≡ Some r → IsFrame source k r frame)
    → AreFrames source (take (k + 1) (records source)) (frames ++ frame ∷ [])
AreFrames-push source k frames frame there are is =
    let rs = records source in
    let count : length frames ≡ k = omega (arith, are.one_each, length-take k rs) in
    record {
      one_each = omega (arith, length-append frames (frame ∷ []), length-take (k + 1) rs);
      each = λ j r f at-r at-f.
          let at : slice_get rs j ≡ Some r = slice_get-take (k + 1) j rs r at-r in
          let small : j < k + 1 = omega (arith, slice_get_within (take (k + 1) rs) j r at-r, length-take (k + 1) rs) in
          push_each source k frames frame count are is j r f small at at-f;
    }
  where
    push_each : (source : Source) (k : ℕ) (frames : List (List ℕ)) (frame : List ℕ) → length frames ≡ k → AreFrames source (take k (records source)) frames
        → ((r : Record) → slice_get (records source) k ≡ Some r → IsFrame source k r frame)
        → (j : ℕ) (r : Record) (f : List ℕ) → j < k + 1 → slice_get (records source) j ≡ Some r → slice_get (frames ++ frame ∷ []) j ≡ Some f → IsFrame source j r f
    push_each source k frames frame count are is j r f small at-r at-f =
        elim (lt_or_same j k small) [
          | inl below ↦
              let earlier : slice_get frames j ≡ Some f = sym (slice_get-front frames frame j (let l = below in omega arith)) ∙ at-f in
              are.each j r f (take-below k j (records source) r below at-r) earlier
          | inr same ↦
              let e : frame ≡ f = slice_get-end frames frame f j (let s = same in omega arith) at-f in
              rw (← e, same) (is r (rw (← same) at-r))
        ]

same_records : (source : Source) (k : ℕ) → records (before k (source_after k source)) ≡ records source
same_records source k =
    let e : source.sealer.next + k - k ≡ source.sealer.next = omega arith in
    ap (λ n. records_for (take (sealed_count n (length (text_groups source))) (text_groups source))) e

after_more : (source : Source) (k : ℕ) → source_after 1 (source_after k source) ≡ source_after (k + 1) source
after_more source k =
    let n : source.sealer.next + k + 1 ≡ source.sealer.next + (k + 1) = omega arith in
    let four : 4 * (k + 1) ≡ 4 * k + 4 = omega arith in
    let d : after_words 4 (after_words (4 * k) source.draws) ≡ after_words (4 * (k + 1)) source.draws =
    sym (after_words-add (4 * k) 4 source.draws) ∙ ap (λ i. after_words i source.draws) (sym four) in
    ap₂ (λ (i : ℕ) (g : ChaCha). let z : Source = record source { sealer = record source.sealer { next = i }; draws = g } in z) n d

-- a frame more of a sender that has sealed some
pub HasSealed-push : (source now next : Source) (k : ℕ) (frames : List (List ℕ)) (frame : List ℕ) → HasSealed source k frames now → k < length (records (before k now))
    → ((r : Record) → slice_get (records (before k now)) k ≡ Some r → SealsNext now.sealer (bytes_of r) (moment_at now.ats k) (confounder_at now.draws 0) frame)
    → next ≡ source_after 1 now → HasSealed source (k + 1) (frames ++ frame ∷ []) next
HasSealed-push source now next k frames frame has there is after =
    let P : Source → Type 0 = λ n. k < length (records (before k n))
    → ((r : Record) → slice_get (records (before k n)) k ≡ Some r → SealsNext n.sealer (bytes_of r) (moment_at n.ats k) (confounder_at n.draws 0) frame)
    → next ≡ source_after 1 n → HasSealed source (k + 1) (frames ++ frame ∷ []) next in
    let at_after : P (source_after k source) = λ there' is' after'. record {
      sealed = AreFrames-push source k frames frame (rw same_records at there') has.sealed (λ r at-r.
          rw (← confounder_at-later source.draws k) (is' r (rw same_records at-r)));
      state = after' ∙ after_more source k;
    } in
    subst P (sym has.state) at_after there is after

-- ---- where a sealer stands

-- it stands after the records that were sealed
pub stands_after : (source now : Source) (k : ℕ) (frames : List (List ℕ)) (sealer : SealerState) → HasSealed source k frames now → k ≤ length (records source) → sealer ≡ now.sealer → StandsAfterSome source sealer
stands_after source now k frames sealer has few same = record {
  count = k;
  some = record { few = few; frames = frames; are = has.sealed };
  is = same ∙ ap (λ s. s.sealer) has.state;
}

-- ---- what is read and answered

pub on_ok : {T E : Type 0} (r : Result T E) (P : Type 0) → P → OnOk r P
on_ok (Ok x) P p = p
on_ok (Err e) P p = tt

pub both_ok : {T E : Type 0} (r : Result T E) (P : T → Type 0) (Q : Type 0) (R : T → Type 0) → IfOk r P → OnOk r Q → ((x : T) → P x → Q → R x) → IfOk r R
both_ok (Ok x) P Q R p q f = f x p q
both_ok (Err e) P Q R p q f = tt

-- a sealer that has a number left and gets no long data answers no other error
pub errors_are : {T : Type 0} (r : Result T SealError) (s : SealerState) (size : ℕ) → size ≤ user_data_limit → s.next ≤ last_number
    → (r ≡ Err Wiped → s.wiped ≡ true) → (r ≡ Err TooLong → (s.wiped ≡ false) × (user_data_limit < size))
    → (r ≡ Err Exhausted → (s.wiped ≡ false) × (size ≤ user_data_limit) × (s.next ≡ end_of_numbers))
    → IfErr r (λ e. ((e ≡ Wiped) × (s.wiped ≡ true)) ⊎ (e ≡ Memory))
errors_are (Ok x) s size short left wiped long out = tt
errors_are (Err Wiped) s size short left wiped long out = inl (refl, wiped refl)
errors_are (Err TooLong) s size short left wiped long out = absurd (omega (arith, (long refl).1))
errors_are (Err Exhausted) s size short left wiped long out = absurd (omega (arith, (out refl).2))
errors_are (Err Memory) s size short left wiped long out = inr refl

-- the moment that is read at a place
pub moment_read : (ats : List ℕ) (k i at : ℕ) → 0 < length ats → i ≡ min k (length ats - 1) → at ≡ get_or ats i at → at ≡ moment_at ats k
moment_read ats k i at some place read =
    let within : i < length ats = omega arith in
    get_or_read ats i at within read 0 ∙ ap (λ j. get_or ats j 0) place

-- texts that pass the test of their lengths
pub short_texts : (texts : List (List ℕ)) → list_all (λ text. nat_le (length text) text_limit) texts ≡ true → All (λ text. length text ≤ text_limit) texts
short_texts [] all = λ k d h. absurd (omega arith)
short_texts (t ∷ texts) all =
    let both = and_parts (nat_le (length t) text_limit) (list_all (λ x. nat_le (length x) text_limit) texts) all in
    All-cons (λ text. length text ≤ text_limit) t texts (leb-true (length t) text_limit both.0) (short_texts texts both.1)

-- ---- the first group of what is left

module _ (source : Source) (passed n : ℕ) (below : passed < length source.texts) (first : IsFirstGroup source.batch (drop passed source.texts) n) where
  some_left : 1 ≤ length (drop passed source.texts)
  some_left = omega (arith, length-drop passed source.texts, below)

  pub first_group_is : group_after passed source ≡ take n (drop passed source.texts)
  first_group_is =
      let some : drop passed source.texts ≢ [] = λ e. (let none : length (drop passed source.texts) ≡ 0 = ap length e in omega (arith, none, some_left)) in
      ap (λ gs. slice_index_or gs 0 []) (next_groups source.batch n (drop passed source.texts) some first)

  pub first_group_length : length (group_after passed source) ≡ n
  first_group_length =
      let two = first_is_some source.batch n (drop passed source.texts) first some_left in
      let high = two.1 in
      let same : length (group_after passed source) ≡ length (take n (drop passed source.texts)) = ap length first_group_is in
      omega (arith, same, high, length-take n (drop passed source.texts))

-- so is the group at a place, where there is one
pub fits_there : (source : Source) (k : ℕ) → IsWithinLimits source → get_or (text_groups source) k [] ≢ [] → FitsLimits (record_for (get_or (text_groups source) k []))
fits_there source k limits some =
    elim (cases_lt k (length (text_groups source))) [
      | inl below ↦ groups_fit source.batch source.texts (text_groups source) (groups_of_source source) limits.batch limits.texts k [] below
      | inr past ↦ absurd (some (get_or_past (text_groups source) k [] past))
    ]
