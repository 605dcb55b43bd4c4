-- Words and confounders of a generator.
use Rattle.std.proofs.Common.{◌≡◌, ℕ, zero, suc, ◌+◌, ◌*◌, List, [], ◌∷◌, ◌++◌, length, get_or, refl, ap, ◌∙◌, arith, append_assoc, append-nil}
use Rattle.rand_chacha.specs.ChaCha.{ChaCha}
use Rattle.krb_peers.specs.Draws.{after_word, after_words, confounder_at}

-- four items in front of a rest
spread : (a rest : List ℕ) → length a ≡ 4
    → get_or a 0 0 ∷ get_or a 1 0 ∷ get_or a 2 0 ∷ get_or a 3 0 ∷ rest ≡ a ++ rest
spread [] rest e = absurd (cc e)
spread (w ∷ []) rest e = absurd (cc e)
spread (w ∷ x ∷ []) rest e = absurd (cc e)
spread (w ∷ x ∷ y ∷ []) rest e = absurd (cc e)
spread (w ∷ x ∷ y ∷ z ∷ []) rest e = refl
spread (w ∷ x ∷ y ∷ z ∷ v ∷ vs) rest e = absurd (cc e)

-- sixteen items of four lists of four
pub sixteen : (a b c d a' b' c' d' : List ℕ)
    → length a ≡ 4 → length b ≡ 4 → length c ≡ 4 → length d ≡ 4
    → a ≡ a' → b ≡ b' → c ≡ c' → d ≡ d'
    → get_or a 0 0 ∷ get_or a 1 0 ∷ get_or a 2 0 ∷ get_or a 3 0
    ∷ get_or b 0 0 ∷ get_or b 1 0 ∷ get_or b 2 0 ∷ get_or b 3 0
    ∷ get_or c 0 0 ∷ get_or c 1 0 ∷ get_or c 2 0 ∷ get_or c 3 0
    ∷ get_or d 0 0 ∷ get_or d 1 0 ∷ get_or d 2 0 ∷ get_or d 3 0 ∷ []
    ≡ a' ++ b' ++ c' ++ d'
sixteen a b c d a' b' c' d' la lb lc ld ea eb ec ed =
    spread a _ la
    ∙ ap (λ r. a ++ r) (spread b _ lb ∙ ap (λ r. b ++ r) (spread c _ lc ∙ ap (λ r. c ++ r) (spread d [] ld)))
    ∙ (rw (← ea, ← eb, ← ec, ← ed) (simp (append_assoc, append-nil)))

-- words one after another
pub after_words-add : (n m : ℕ) (g : ChaCha) → after_words (n + m) g ≡ after_words m (after_words n g)
after_words-add zero m g = let e : 0 + m ≡ m = omega arith in ap (λ k. after_words k g) e
after_words-add (suc n) m g =
    let e : suc n + m ≡ suc (n + m) = omega arith in
    ap (λ k. after_words k g) e ∙ after_words-add n m (after_word g)

-- the first confounder from where the generator stands after 4k words is confounder k
pub confounder_at-later : (g : ChaCha) (k : ℕ) → confounder_at (after_words (4 * k) g) 0 ≡ confounder_at g k
confounder_at-later g k =
    rw (after_words-add (4 * k) 1 g, after_words-add (4 * k) 2 g, after_words-add (4 * k) 3 g) refl
