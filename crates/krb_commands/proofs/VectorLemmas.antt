-- Lines appended one after the other.
use Rattle.std.proofs.Common.{◌≡◌, ℕ, List, ◌++◌, refl, ap, ◌∙◌, append_assoc, Result, Ok, Err, OnOk}

three-appended : (start s t u a b c : List ℕ) → s ≡ start ++ a → t ≡ s ++ b → u ≡ t ++ c → u ≡ start ++ (a ++ b ++ c)
three-appended start s t u a b c p q r = r ∙ ap (λ l. l ++ c) (q ∙ ap (λ l. l ++ b) p) ∙ simp append_assoc refl

pub three_lines : {E : Type 0} (result : Result (Unit {0}) E) (start s t u a b c : List ℕ)
    → s ≡ start ++ a → t ≡ s ++ b → OnOk result (u ≡ t ++ c) → OnOk result (u ≡ start ++ (a ++ b ++ c))
three_lines (Ok x) start s t u a b c p q r = three-appended start s t u a b c p q r
three_lines (Err e) start s t u a b c p q r = tt

pub four_lines : {E : Type 0} (result : Result (Unit {0}) E) (start s t u v a b c d : List ℕ)
    → s ≡ start ++ a → t ≡ s ++ b → u ≡ t ++ c → OnOk result (v ≡ u ++ d) → OnOk result (v ≡ start ++ (a ++ b ++ c ++ d))
four_lines (Ok x) start s t u v a b c d p q r o =
    o ∙ ap (λ l. l ++ d) (three-appended start s t u a b c p q r) ∙ append_assoc start (a ++ b ++ c) d
four_lines (Err e) start s t u v a b c d p q r o = tt
