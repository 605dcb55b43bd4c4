-- What is under way in a shard, and what is read of it.
use Rattle.std.proofs.Common.{◌≡◌, ◌≢◌, ◌⊎◌, ℕ, zero, suc, ◌+◌, ◌-◌, ◌<◌, ◌≤◌, true, false, Option, Some, None, List, [], ◌∷◌, slice_get, refl, sym, ap, subst, ◌∙◌, inl, inr, arith}
use Rattle.std.specs.Prelude.{sum, slice_set}
use Rattle.std.proofs.lemmas.List.Sums.{sum_by-cons}
use Rattle.krb_engine.specs.Limits.{under_way_most}
use Rattle.krb_engine.specs.declared.shards.Flow.{Flow}
use Rattle.krb_engine.specs.declared.shards.Spot.{Spot}
use Rattle.krb_engine.specs.declared.shards.Reading.{Reading}
use Rattle.krb_engine.specs.declared.shards.Read.TheVariants.{Nothing, Elsewhere, Take}
use Rattle.std.proofs.lemmas.Bool.{true≢false}
use Rattle.krb_engine.specs.Shards.{room_with, room_of, IsWhole, taken}
use Rattle.krb_engine.specs.ShardLaws.{UnderWayIsTheSum, FewAreUnderWay, NothingIsSkipped, LeadsOn, OneTransactionAfterAnother, RoomIsLeft, OtherListsBegin}

-- ---- under way

sum-cons : (count : ℕ) (counts : List ℕ) → sum (count ∷ counts) ≡ count + sum counts
sum-cons count counts = sum_by-cons (λ (n : ℕ). n) count counts

one_of_sum : (counts : List ℕ) (place before after : ℕ) → slice_get counts place ≡ Some before → sum (slice_set counts place after) + before ≡ sum counts + after
one_of_sum [] place before after at = absurd (let e : None ≡ Some before = at in cc)
one_of_sum (count ∷ counts) zero before after at =
    let same : count ≡ before = (let e : Some count ≡ Some before = at in cc) in
    omega (arith, same, sum-cons count counts, sum-cons after counts)
one_of_sum (count ∷ counts) (suc place) before after at =
    omega (arith, one_of_sum counts place before after at, sum-cons count counts, sum-cons count (slice_set counts place after))

within_sum : (counts : List ℕ) (place before : ℕ) → slice_get counts place ≡ Some before → before ≤ sum counts
within_sum counts place before at = (let none = one_of_sum counts place before 0 at in omega (arith, none))

pub under_way_is_the_sum : UnderWayIsTheSum
under_way_is_the_sum flow counts place before after is at =
    (omega (arith, is, within_sum counts place before at), omega (arith, is, within_sum counts place before at, one_of_sum counts place before after at))

room_le : (list : Option ℕ) (under_way : ℕ) → room_with list under_way ≤ under_way_most - under_way
room_le None under_way = omega arith
room_le (Some list) under_way = omega arith

pub few_are_under_way : FewAreUnderWay
few_are_under_way flow before count few there room = omega (arith, few, there, room, room_le flow.list flow.under_way)

-- ---- reading

pub nothing_is_skipped : NothingIsSkipped
nothing_is_skipped old list last count new = (
  λ reads. (ap (λ (s : Reading). s.read.list) reads.3, ap (λ (s : Reading). s.read.offset) reads.3),
  λ reads. ap (λ (s : Reading). s.read) reads.1,
  λ reads same. back reads.1 same,
)
  where
    back : ((list ≢ old.read.list) × (new ≡ record { stored = old.stored; read = record { list = list; offset = 0 }; is_open = false }))
        ⊎ ((list ≡ old.read.list) × (last < old.read.offset) × (new ≡ record { stored = old.stored; read = record old.read { offset = last }; is_open = false }))
        → new.read.list ≡ old.read.list → new.read.offset < old.read.offset
    back (inl other) same = absurd (other.0 (sym (ap (λ (s : Reading). s.read.list) other.1) ∙ same))
    back (inr cut) same = omega (arith, cut.1, ap (λ (s : Reading). s.read.offset) cut.2)

pub one_after_another : OneTransactionAfterAnother
one_after_another old [] new same leads =
    let stored : new.stored ≡ old.stored = ap (λ (s : Reading). s.stored) leads in (
      ap (λ (s : Reading). s.read) leads ∙ (same ∙ sym stored),
      ap (λ (s : Spot). s.list) stored,
      omega (arith, ap (λ (s : Spot). s.offset) stored),
    )
one_after_another old (count ∷ counts) new same leads =
    let between = (leads.1).0 in
    let reads = (leads.1).1 in
    let rest = one_after_another (taken between) counts new refl (leads.1).2 in
    let list : between.read.list ≡ old.stored.list = ap (λ (s : Reading). s.read.list) reads.3 ∙ ap (λ (s : Spot). s.list) same in (
      rest.0,
      rest.1 ∙ list,
      omega (arith, rest.2, ap (λ (s : Reading). s.read.offset) reads.3, ap (λ (s : Spot). s.offset) same, sum-cons count counts),
    )

pub room_is_left : RoomIsLeft
room_is_left flow list is few =
    let room : room_of flow ≡ under_way_most - flow.under_way = ap (λ l. room_with l flow.under_way) is in
    omega (arith, room, few)

pub other_lists_begin : OtherListsBegin
other_lists_begin old list last count Take new other closed reads = absurd (other (reads.1).0)
other_lists_begin old list last count Nothing new other closed reads = absurd (by_rest reads.0)
  where
    by_rest : (old.is_open ≡ true) ⊎ (IsWhole old list last × (count ≡ 0)) → ⊥
    by_rest (inl running) = true≢false (sym running ∙ closed)
    by_rest (inr whole) = other (whole.0).0
other_lists_begin old list last count Elsewhere new other closed reads = by_list reads.1
  where
    by_list : ((list ≢ old.read.list) × (new ≡ record { stored = old.stored; read = record { list = list; offset = 0 }; is_open = false }))
        ⊎ ((list ≡ old.read.list) × (last < old.read.offset) × (new ≡ record { stored = old.stored; read = record old.read { offset = last }; is_open = false }))
        → (new.read.list ≡ list) × (new.read.offset ≡ 0)
    by_list (inl begins) = (ap (λ (s : Reading). s.read.list) begins.1, ap (λ (s : Reading). s.read.offset) begins.1)
    by_list (inr cut) = absurd (other cut.0)
