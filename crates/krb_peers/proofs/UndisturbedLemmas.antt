-- The wire of frames in order.
use Rattle.std.proofs.Common.{◌≡◌, ℕ, zero, suc, ◌+◌, ◌<◌, ◌≤◌, if◌then◌else◌, Bool, true, false, List, [], ◌∷◌, ◌++◌, length, slice_get, Option, Some, None, refl, sym, ap, ◌∙◌, arith, length-append, inl, inr}
use Rattle.std.proofs.lemmas.Bool.{lt-ltb}
use Rattle.std.proofs.lemmas.List.{length-map}
use Rattle.std.proofs.lemmas.List.Folds.{list_all-append}
use Rattle.std.proofs.lemmas.Option.{slice_get_within}
use Rattle.krb_record.specs.declared.plan.Emit.{Emit}
use Rattle.krb_record.specs.declared.plan.Emit.TheVariants.{Frame}
use Rattle.krb_peers.specs.Plan.{is_good, is_good_emission, emission, emissions, wire}
use Rattle.krb_peers.specs.Planned.{in_order, IsInOrder}
use Rattle.krb_peers.proofs.ListLemmas.{slice_get-front, slice_get-end, lt_or_same}

pub length-in_order : (n : ℕ) → length (in_order n) ≡ n
length-in_order zero = refl
length-in_order (suc n) = simp length-append (omega (arith, length-in_order n))

pub in_order-at : (n i : ℕ) (e : Emit) → slice_get (in_order n) i ≡ Some e → e ≡ Frame i
in_order-at zero i e h = absurd (let f = h in cc)
in_order-at (suc n) i e h =
    let long : length (in_order n ++ Frame n ∷ []) ≡ n + 1 = simp length-append (omega (arith, length-in_order n)) in
    let within : i < n + 1 = omega (arith, slice_get_within (in_order n ++ Frame n ∷ []) i e h) in
    elim (lt_or_same i n within) [
      | inl below ↦ in_order-at n i e (sym (slice_get-front (in_order n) (Frame n) i (omega (arith, below, length-in_order n))) ∙ h)
      | inr same ↦ sym (slice_get-end (in_order n) (Frame n) e i (same ∙ sym (length-in_order n)) h) ∙ ap Frame (sym same)
    ]

pub good_in_order : (frames : List (List ℕ)) (n : ℕ) → n ≤ length frames → is_good frames (in_order n) ≡ true
good_in_order frames zero le = refl
good_in_order frames (suc n) le =
    list_all-append (is_good_emission frames) (in_order n) (Frame n ∷ [])
    ∙ rw (good_in_order frames n (omega (arith, le)), lt-ltb n (length frames) (omega (arith, le))) refl

-- it carries no more
none_longer_by : (frames : List (List ℕ)) (plan : List Emit) (n : ℕ) (good : Bool) → plan ≡ in_order n → length (if good then emissions frames plan else []) ≤ n
none_longer_by frames plan n true order = omega (arith, length-map plan (emission frames), ap length order, length-in_order n)
none_longer_by frames plan n false order = omega arith

pub none_longer : (frames : List (List ℕ)) (plan : Option (List Emit)) (n : ℕ) → IsInOrder plan n → length frames ≤ n → length (wire frames plan) ≤ n
none_longer frames None n order few = few
none_longer frames (Some plan) n order few = none_longer_by frames plan n (is_good frames plan) order
