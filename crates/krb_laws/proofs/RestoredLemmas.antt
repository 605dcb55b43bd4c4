-- No number leaves for two records.
use Rattle.std.proofs.Common.{◌≡◌, ◌⊎◌, ℕ, zero, suc, ◌+◌, ◌<◌, true, false, List, [], ◌∷◌, ◌++◌, length, drop, slice_get, Option, Some, None, refl, sym, ap, subst, ◌∙◌, inl, inr, arith}
use Rattle.std.proofs.lemmas.Option.{slice_get_within}
use Rattle.krb_peers.specs.Session.{Sealed}
use Rattle.krb_carry.specs.Outbox.{Kept, numbered}
use Rattle.krb_carry.proofs.OutboxLemmas.{first, second, stands_in, slice_get-append}
use Rattle.krb_laws.specs.Restored.{Has, State, World, new_world, WorldStep, SealsMore, Leaves, Restores, Begins, MayBegin, Steps, LeadsWorld}

-- each earlier state has less
abbrev IsPast : State → List State → Type 0
IsPast now [] = Unit {0}
IsPast now (state ∷ past) =
    ((kept : Kept) → Has state.keeps kept → Has now.keeps kept) × ((kept : Kept) → Has state.keeps kept → kept.number < state.next) × IsPast state past

abbrev Agree : List Kept → List Kept → Type 0
Agree ones others = (one other : Kept) → Has ones one → Has others other → one.number ≡ other.number → one ≡ other

record IsSound (world : World) : Type 0 where
  pub below : (kept : Kept) → Has world.now.keeps kept → kept.number < world.now.next
  pub own : Agree world.now.keeps world.now.keeps
  pub stored : Agree world.left world.now.keeps
  pub apart : Agree world.left world.left
  pub ahead : world.has_begun ≡ true → (kept : Kept) → Has world.left kept → kept.number < world.now.next
  pub past : IsPast world.now world.past

none_there : (kept : Kept) → Has [] kept → ⊥
none_there kept has = (let e : ◌≡◌ {A = Option Kept} None (Some kept) = has.1 in cc)

sound_new : (start : ℕ) → IsSound (new_world start)
sound_new start = record {
  below = λ kept has. absurd (none_there kept has);
  own = λ one other has also same. absurd (none_there one has);
  stored = λ one other has also same. absurd (none_there one has);
  apart = λ one other has also same. absurd (none_there one has);
  ahead = λ begun kept has. absurd (none_there kept has);
  past = tt;
}

-- ---- sealing

number_is : (from : ℕ) (sealed : List Sealed) (k : ℕ) (kept : Kept) → slice_get (numbered from sealed) k ≡ Some kept → kept.number ≡ from + k
number_is from [] k kept at = absurd (let e : ◌≡◌ {A = Option Kept} None (Some kept) = at in cc)
number_is from (it ∷ sealed) zero kept at =
    let same : record { number = from; it = it } ≡ kept = (let e : Some (record { number = from; it = it }) ≡ Some kept = at in cc) in
    let number : from ≡ kept.number = ap (λ (k : Kept). k.number) same in
    omega (arith, number)
number_is from (it ∷ sealed) (suc k) kept at =
    let later = number_is (from + 1) sealed k kept at in
    omega (arith, later)

length-numbered : (from : ℕ) (sealed : List Sealed) → length (numbered from sealed) ≡ length sealed
length-numbered from [] = refl
length-numbered from (it ∷ sealed) = ap suc (length-numbered (from + 1) sealed)

-- where something stands that was stored before or is now
data Where (next : ℕ) (keeps : List Kept) (sealed : List Sealed) (kept : Kept) : Type 0 where
  before : Has keeps kept → Where next keeps sealed kept
  fresh : (i : ℕ) → slice_get (numbered next sealed) i ≡ Some kept → kept.number ≡ next + i → i < length sealed → Where next keeps sealed kept

where_is : (next : ℕ) (keeps : List Kept) (sealed : List Sealed) (kept : Kept) → Has (keeps ++ numbered next sealed) kept → Where next keeps sealed kept
where_is next keeps sealed kept has = elim (stands_in keeps (numbered next sealed) (has.0) kept has.1) [
  | first at ↦ before (has.0, at)
  | second i place at ↦ fresh i at (number_is next sealed i kept at) (omega (arith, slice_get_within (numbered next sealed) i kept at, length-numbered next sealed))
]

same_place : (keeps : List Kept) (i j : ℕ) (one other : Kept) → i ≡ j → slice_get keeps i ≡ Some one → slice_get keeps j ≡ Some other → one ≡ other
same_place keeps i j one other same at also =
    let e : Some one ≡ Some other = sym at ∙ (ap (λ n. slice_get keeps n) same ∙ also) in cc

sound_sealed : (old : World) (sealed : List Sealed) → IsSound old → old.has_begun ≡ true → IsSound (record old { now = record { next = old.now.next + length sealed; keeps = old.now.keeps ++ numbered old.now.next sealed }; past = old.now ∷ old.past })
sound_sealed old sealed sound begun =
    let next = old.now.next in
    let keeps = old.now.keeps in
    let there : (kept : Kept) → Has (keeps ++ numbered next sealed) kept → Where next keeps sealed kept = λ kept has. where_is next keeps sealed kept has in
    record {
      below = λ kept has. elim (there kept has) [
        | before was ↦ omega (arith, sound.below kept was)
        | fresh i at number lt ↦ omega (arith, number, lt)
      ];
      own = λ one other has also same. elim (there one has) [
        | before was ↦ elim (there other also) [
          | before too ↦ sound.own one other was too same
          | fresh j at number lt ↦ absurd (omega (arith, sound.below one was, number, same))
        ]
        | fresh i at number lt ↦ elim (there other also) [
          | before too ↦ absurd (omega (arith, sound.below other too, number, same))
          | fresh j that its less ↦ same_place (numbered next sealed) i j one other (omega (arith, number, its, same)) at that
        ]
      ];
      stored = λ one other has also same. elim (there other also) [
        | before too ↦ sound.stored one other has too same
        | fresh j at number lt ↦ absurd (omega (arith, sound.ahead begun one has, number, same))
      ];
      apart = sound.apart;
      ahead = λ yes kept has. omega (arith, sound.ahead begun kept has);
      past = (λ kept has. (has.0, slice_get-append keeps (numbered next sealed) (has.0) kept has.1), sound.below, sound.past);
    }

-- ---- leaving

sound_left : (old : World) (kept : Kept) → IsSound old → Has old.now.keeps kept → IsSound (record old { left = old.left ++ kept ∷ [] })
sound_left old kept sound here =
    let there : (one : Kept) → Has (old.left ++ kept ∷ []) one → Has old.left one ⊎ (kept ≡ one) = λ one has. by one has in
    record {
      below = sound.below;
      own = sound.own;
      stored = λ one other has also same. elim (there one has) [
        | inl was ↦ sound.stored one other was also same
        | inr is ↦ sound.own one other (subst (λ k. Has old.now.keeps k) is here) also same
      ];
      apart = λ one other has also same. elim (there one has) [
        | inl was ↦ elim (there other also) [
          | inl too ↦ sound.apart one other was too same
          | inr is ↦ sound.stored one other was (subst (λ k. Has old.now.keeps k) is here) same
        ]
        | inr is ↦ elim (there other also) [
          | inl too ↦ sym (sound.stored other one too (subst (λ k. Has old.now.keeps k) is here) (sym same))
          | inr that ↦ sym is ∙ that
        ]
      ];
      ahead = λ begun one has. elim (there one has) [
        | inl was ↦ sound.ahead begun one was
        | inr is ↦ sound.below one (subst (λ k. Has old.now.keeps k) is here)
      ];
      past = sound.past;
    }
  where
    only : (i : ℕ) (one : Kept) → slice_get (kept ∷ []) i ≡ Some one → kept ≡ one
    only zero one at = (let e : Some kept ≡ Some one = at in cc)
    only (suc i) one at = absurd (let e : ◌≡◌ {A = Option Kept} None (Some one) = at in cc)

    by : (one : Kept) → Has (old.left ++ kept ∷ []) one → Has old.left one ⊎ (kept ≡ one)
    by one has = elim (stands_in old.left (kept ∷ []) (has.0) one has.1) [
      | first at ↦ inl (has.0, at)
      | second i place at ↦ inr (only i one at)
    ]

-- ---- restoring

record IsEarlier (now state : State) (rest : List State) : Type 0 where
  pub less : (kept : Kept) → Has state.keeps kept → Has now.keeps kept
  pub below : (kept : Kept) → Has state.keeps kept → kept.number < state.next
  pub past : IsPast state rest

earlier : (now : State) (past : List State) (place : ℕ) (state : State) → IsPast now past → slice_get past place ≡ Some state → IsEarlier now state (drop (suc place) past)
earlier now [] place state is at = absurd (let e : ◌≡◌ {A = Option State} None (Some state) = at in cc)
earlier now (s ∷ past) zero state is at =
    let same : s ≡ state = (let e : Some s ≡ Some state = at in cc) in
    subst (λ t. IsEarlier now t past) same (record { less = is.0; below = is.1; past = is.2 })
earlier now (s ∷ past) (suc place) state is at =
    let rest = earlier s past place state is.2 at in
    record { less = λ kept has. is.0 kept (rest.less kept has); below = rest.below; past = rest.past }

sound_restored : (old : World) (place : ℕ) (state : State) → IsSound old → slice_get old.past place ≡ Some state → IsSound (record old { now = state; past = drop (suc place) old.past; has_begun = false })
sound_restored old place state sound at =
    let it = earlier old.now old.past place state sound.past at in
    record {
      below = it.below;
      own = λ one other has also same. sound.own one other (it.less one has) (it.less other also) same;
      stored = λ one other has also same. sound.stored one other has (it.less other also) same;
      apart = sound.apart;
      ahead = λ begun kept has. absurd (let e : false ≡ true = begun in cc);
      past = it.past;
    }

-- ---- all of it

more_past : (now : State) (next : ℕ) (past : List State) → IsPast now past → IsPast (record { next = next; keeps = now.keeps }) past
more_past now next [] is = tt
more_past now next (state ∷ past) is = is

sound_begun : (old : World) (carrier : List Kept) (next : ℕ) → IsSound old → MayBegin old carrier next → IsSound (record old { now = record { next = next; keeps = old.now.keeps }; has_begun = true })
sound_begun old carrier next sound may = record {
  below = λ kept has. omega (arith, sound.below kept has, may.own);
  own = sound.own;
  stored = sound.stored;
  apart = sound.apart;
  ahead = λ begun kept has. may.highest kept (may.seen kept has);
  past = more_past old.now next old.past sound.past;
}

sound_step : (old : World) (event : WorldStep) (new : World) → IsSound old → Steps old event new → IsSound new
sound_step old (SealsMore sealed) new sound step = subst IsSound (sym step.1) (sound_sealed old sealed sound step.0)
sound_step old (Leaves kept) new sound step = subst IsSound (sym step.1) (sound_left old kept sound step.0)
sound_step old (Restores place) new sound step = subst IsSound (sym step.2) (sound_restored old place (step.0) sound step.1)
sound_step old (Begins carrier next) new sound step = subst IsSound (sym step.1) (sound_begun old carrier next sound step.0)

sound_all : (old : World) (events : List WorldStep) (new : World) → IsSound old → LeadsWorld old events new → IsSound new
sound_all old [] new sound same = subst IsSound (sym same) sound
sound_all old (event ∷ events) new sound leads = sound_all (leads.0) events new (sound_step old event (leads.0) sound leads.1) leads.2

pub one_each : (start : ℕ) (events : List WorldStep) (world : World) → LeadsWorld (new_world start) events world → (one other : Kept) → Has world.left one → Has world.left other → one.number ≡ other.number → one ≡ other
one_each start events world leads one other has also same = (sound_all (new_world start) events world (sound_new start) leads).apart one other has also same
