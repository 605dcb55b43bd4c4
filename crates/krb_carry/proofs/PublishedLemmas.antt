-- What isn't carried is published again.
use Rattle.std.proofs.Common.{◌⊎◌, ℕ, ◌<◌, ◌≤◌, Bool, true, false, List, [], ◌∷◌, if◌then◌else◌, inl, inr, arith}
use Rattle.std.proofs.lemmas.Bool.{cases_lt}
use Rattle.krb_carry.specs.Laws.{NotCarriedIsPublishedAgain}
use Rattle.krb_carry.specs.Progress.{counts, counted, Happening, Store, Publish, Rewind, Confirm, after, after_all, Publishes, IsPublished}
use Rattle.krb_carry.specs.ProgressState.{ProgressState}

-- a frame that counts as published and not as carried was published before, or is among these
module _ (number : ℕ) where
  abbrev Was : ProgressState → Type 0 → Type 0
  Was p Before = p.carried ≤ number → number < p.sent → Before

  later : {Before Now Later : Type 0} → Before ⊎ Later → Before ⊎ (Now ⊎ Later)
  later (inl before) = inl before
  later (inr it) = inr (inr it)

  joined : {Before Now Later : Type 0} → (Before ⊎ Now) ⊎ Later → Before ⊎ (Now ⊎ Later)
  joined (inl (inl before)) = inl before
  joined (inl (inr now)) = inr (inl now)
  joined (inr it) = inr (inr it)

  confirmed : {Before : Type 0} (p : ProgressState) (offset : ℕ) (b : Bool) → Was p Before → Was (if b then counted p offset else p) Before
  confirmed p offset true was le lt = was (omega (arith, le)) (omega (arith, le, lt))
  confirmed p offset false was le lt = was le lt

  pub again : (Before : Type 0) (p : ProgressState) (happenings : List Happening) → Was p Before
      → (after_all p happenings).carried ≤ number → number < (after_all p happenings).sent → Before ⊎ IsPublished p happenings number
  again Before p [] was le lt = inl (was le lt)
  again Before p (Store count ∷ happenings) was le lt = later (again Before (after p (Store count)) happenings was le lt)
  again Before p (Publish count ∷ happenings) was le lt =
      joined (again (Before ⊎ Publishes p (Publish count) number) (after p (Publish count)) happenings (λ from under. elim (cases_lt number p.sent) [
        | inl sent ↦ inl (was from sent)
        | inr now ↦ inr (now, under)
      ]) le lt)
  again Before p (Rewind ∷ happenings) was le lt = later (again Before (after p Rewind) happenings (λ from under. absurd (omega (arith, from, under))) le lt)
  again Before p (Confirm carried offset ∷ happenings) was le lt =
      later (again Before (after p (Confirm carried offset)) happenings (confirmed p offset (counts p carried offset) was) le lt)

pub published_again : NotCarriedIsPublishedAgain
published_again progress happenings number le lt =
    elim (again number ⊥ (after progress Rewind) happenings (λ from under. absurd (omega (arith, from, under))) le lt) [
      | inl none ↦ absurd none
      | inr it ↦ it
    ]
