-- The numbers of frames that are taken in one call.
use Rattle.std.proofs.Common.{◌≡◌, ℕ, zero, suc, ◌+◌, ◌==◌, if◌then◌else◌, Bool, List, [], ◌∷◌, length, take, drop, Option, Some, ap, subst, ◌∙◌, inl, inr, arith}
use Rattle.std.specs.Prelude.{slice_get}
use Rattle.std.proofs.lemmas.Bool.{cases_eq, eq-eqb, ne_eqb}
use Rattle.std.proofs.lemmas.List.Sums.{sum_by-cons}
use Rattle.krb_peers.specs.ReceiverState.{ReceiverState}
use Rattle.krb_structs.specs.declared.moment.KrbMoment.{KrbMoment}
use Rattle.krb_calls.specs.declared.frame.KrbFrame.{KrbFrame}
use Rattle.krb_calls.specs.declared.taken.KrbTaken.{KrbTaken}
use Rattle.krb_calls.specs.Laws.{accepted_in}
use Rattle.krb_calls.specs.Takes.{Takes, TakesInTurn, used}

abbrev one : Bool → ℕ
one b = if b then 1 else 0

-- a frame that is accepted takes a number, and no other does
next_number : (old : ReceiverState) (at : KrbMoment) (frame : List ℕ) (before : KrbTaken) (old_out : List ℕ) (new : ReceiverState) (told : KrbTaken) (new_out : List ℕ)
    → Takes old at frame before old_out new told new_out → new.demand.expected ≡ old.demand.expected + one (told.answer == 0)
next_number old at frame before old_out new told new_out takes = elim (cases_eq told.answer 0) [
  | inl same ↦
      let moved : new.demand.expected ≡ old.demand.expected + 1 = ap (λ (r : ReceiverState). r.demand.expected) (takes.accepted same).3 in
      omega (arith, moved, ap one (eq-eqb told.answer 0 same))
  | inr apart ↦
      let stays : new.demand.expected ≡ old.demand.expected = ap (λ (r : ReceiverState). r.demand.expected) (takes.unchanged apart) in
      omega (arith, stays, ap one (ne_eqb told.answer 0 apart))
]

accepted_cons : (t : KrbTaken) (ts : List KrbTaken) → accepted_in (t ∷ ts) ≡ one (t.answer == 0) + accepted_in ts
accepted_cons t ts = sum_by-cons (λ (it : KrbTaken). one (it.answer == 0)) t ts

pub last_number : (old : ReceiverState) (at : KrbMoment) (fs : List KrbFrame) (before : List KrbTaken) (old_out : List ℕ) (new : ReceiverState) (told : List KrbTaken) (new_out : List ℕ)
    → length fs ≡ length before → TakesInTurn old at fs before old_out new told new_out
    → new.demand.expected ≡ old.demand.expected + accepted_in told
last_number old at [] [] old_out new told new_out same h =
    omega (arith, ap (λ (r : ReceiverState). r.demand.expected) h.0, ap accepted_in h.1)
last_number old at [] (b ∷ bs) old_out new told new_out same h = absurd (omega (arith, same))
last_number old at (f ∷ fs) [] old_out new told new_out same h = absurd (omega (arith, same))
last_number old at (f ∷ fs) (b ∷ bs) old_out new [] new_out same h = absurd h
last_number old at (f ∷ fs) (b ∷ bs) old_out new (t ∷ ts) new_out same h =
    omega (
      arith,
      next_number old at f.bytes.now b old_out h.0 t h.1 h.3,
      last_number h.0 at fs bs (drop (used t) h.1) new ts h.2 (omega (arith, same)) h.4,
      accepted_cons t ts,
    )

same_taken : (x t : KrbTaken) → ◌≡◌ {A = Option KrbTaken} (Some x) (Some t) → x ≡ t
same_taken x t e = cc

pub its_number : (old : ReceiverState) (at : KrbMoment) (fs : List KrbFrame) (before : List KrbTaken) (old_out : List ℕ) (new : ReceiverState) (told : List KrbTaken) (new_out : List ℕ) (k : ℕ) (t : KrbTaken)
    → length fs ≡ length before → TakesInTurn old at fs before old_out new told new_out
    → slice_get told k ≡ Some t → t.answer ≡ 0 → t.number ≡ old.demand.expected + accepted_in (take k told)
its_number old at [] [] old_out new told new_out k t same h is accepted =
    let none : slice_get [] k ≡ Some t = subst (λ l. slice_get l k ≡ Some t) h.1 is in absurd cc
its_number old at [] (b ∷ bs) old_out new told new_out k t same h is accepted = absurd (omega (arith, same))
its_number old at (f ∷ fs) [] old_out new told new_out k t same h is accepted = absurd (omega (arith, same))
its_number old at (f ∷ fs) (b ∷ bs) old_out new [] new_out k t same h is accepted = absurd h
its_number old at (f ∷ fs) (b ∷ bs) old_out new (x ∷ xs) new_out zero t same h is accepted =
    let it : x ≡ t = same_taken x t is in
    let number : x.number ≡ old.demand.expected = h.3.number (ap (λ (y : KrbTaken). y.answer) it ∙ accepted) in
    omega (arith, number, ap (λ (y : KrbTaken). y.number) it)
its_number old at (f ∷ fs) (b ∷ bs) old_out new (x ∷ xs) new_out (suc k) t same h is accepted =
    omega (
      arith,
      next_number old at f.bytes.now b old_out h.0 x h.1 h.3,
      its_number h.0 at fs bs (drop (used x) h.1) new xs h.2 k t (omega (arith, same)) h.4 is accepted,
      accepted_cons x (take k xs),
    )
