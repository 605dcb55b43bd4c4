-- One digest, one history.
use Rattle.std.proofs.Common.{◌≡◌, ◌≤◌, ℕ, Bool, true, false, List, [], ◌∷◌, ◌++◌, length, map, take, length-take, refl, sym, ap, ◌∙◌, ◌⊎◌, inl, inr, arith}
use Rattle.std.proofs.lemmas.Slice.Eq.{bytes_eq-Decides}
use Rattle.std.specs.Str.{bytes_eq}
use Rattle.sha1.specs.Sha1.{digest_bytes, sha1}
use Rattle.krb_carry.specs.History.{no_history, tag, with_frame, with_frames}
use Rattle.krb_carry.specs.HistoryLaws.{Collision, GoesOn, OneHistory, ReceiptsNameTheHistory}

length-sha1 : (m : List ℕ) → length (sha1 m) ≡ 20
unfolding sha1 digest_bytes
length-sha1 m = refl

-- lists of one length in front are the same, and so is what follows
fronts : (a b s t : List ℕ) → length a ≡ length b → a ++ s ≡ b ++ t → (a ≡ b) × (s ≡ t)
fronts [] [] s t len e = (refl, e)
fronts [] (y ∷ b) s t len e = absurd cc
fronts (x ∷ a) [] s t len e = absurd cc
fronts (x ∷ a) (y ∷ b) s t len e =
    let rest : a ++ s ≡ b ++ t = cc in
    let more = fronts a b s t (omega (arith, len)) rest in
    let head : x ≡ y = cc in
    (ap (λ (p : ℕ). p ∷ a) head ∙ ap (λ (q : List ℕ). y ∷ q) more.0, more.1)

-- two digests and two tags that have one hash
one_step : (h g f k : List ℕ) → length h ≡ length g → with_frame h f ≡ with_frame g k → ((h ≡ g) × (tag f ≡ tag k)) ⊎ Collision
one_step h g f k len e = by_test (bytes_eq (h ++ tag f) (g ++ tag k)) refl
  where
    by_test : (t : Bool) → bytes_eq (h ++ tag f) (g ++ tag k) ≡ t → ((h ≡ g) × (tag f ≡ tag k)) ⊎ Collision
    by_test true is = inl (fronts h g (tag f) (tag k) len ((bytes_eq-Decides (h ++ tag f) (g ++ tag k)).0 is))
    by_test false is = inr (record { one = h ++ tag f; other = g ++ tag k; differ = λ same. (let wrong : false ≡ true = sym is ∙ (bytes_eq-Decides (h ++ tag f) (g ++ tag k)).1 same in cc); same = e })

from_any : (h g : List ℕ) (fs ks : List (List ℕ)) → length h ≡ length g → length fs ≡ length ks → with_frames h fs ≡ with_frames g ks → ((h ≡ g) × (map tag fs ≡ map tag ks)) ⊎ Collision
from_any h g [] [] len many e = inl (e, refl)
from_any h g [] (k ∷ ks) len many e = absurd cc
from_any h g (f ∷ fs) [] len many e = absurd cc
from_any h g (f ∷ fs) (k ∷ ks) len many e = by_rest (from_any (with_frame h f) (with_frame g k) fs ks (length-sha1 (h ++ tag f) ∙ sym (length-sha1 (g ++ tag k))) (omega (arith, many)) e)
  where
    by_step : map tag fs ≡ map tag ks → ((h ≡ g) × (tag f ≡ tag k)) ⊎ Collision → ((h ≡ g) × (map tag (f ∷ fs) ≡ map tag (k ∷ ks))) ⊎ Collision
    by_step rest (inl (same, tags)) = inl (same, ap (λ (p : List ℕ). p ∷ map tag fs) tags ∙ ap (λ (q : List (List ℕ)). tag k ∷ q) rest)
    by_step rest (inr c) = inr c

    by_rest : ((with_frame h f ≡ with_frame g k) × (map tag fs ≡ map tag ks)) ⊎ Collision → ((h ≡ g) × (map tag (f ∷ fs) ≡ map tag (k ∷ ks))) ⊎ Collision
    by_rest (inl (same, rest)) = by_step rest (one_step h g f k len same)
    by_rest (inr c) = inr c

pub one_history : OneHistory
one_history fs ks many e = by_case (from_any no_history no_history fs ks refl many e)
  where
    by_case : ((no_history ≡ no_history) × (map tag fs ≡ map tag ks)) ⊎ Collision → (map tag fs ≡ map tag ks) ⊎ Collision
    by_case (inl both) = inl both.1
    by_case (inr c) = inr c

pub goes_on : GoesOn
goes_on h [] after = refl
goes_on h (f ∷ before) after = goes_on (with_frame h f) before after

length-first : (n : ℕ) (fs : List (List ℕ)) → n ≤ length fs → length (take n fs) ≡ n
length-first n fs few = omega (arith, length-take n fs)

pub receipts_name_the_history : ReceiptsNameTheHistory
receipts_name_the_history mine took n few less = (
  λ same. one_history (take n mine) (take n took) (length-first n mine few ∙ sym (length-first n took less)) same,
  λ other same. other (ap (λ (fs : List (List ℕ)). with_frames no_history fs) same),
)
