use Rattle.std.proofs.Common.{◌≡◌, ℕ, List, [], ◌++◌, length, take, drop, ap, ap₂, ◌∙◌, sym, refl, arith, length-append, length-drop}
use Rattle.std.proofs.Math.Seq.{take-append_seam}
use Rattle.std.proofs.lemmas.List.{drop_all, append-nil}
use borrow.Rule.Slice.PartMut.{put_mid, post_of}
use Rattle.krb_keys.proofs.derivation.joined.Goals as goal

halves : (a b z : List ℕ) → length a ≡ 16 → length z ≡ 16 → put_mid 16 16 (a ++ z) b ≡ a ++ b
halves a b z la lz =
    let front : take 16 (a ++ z) ≡ a = ap (λ (k : ℕ). take k (a ++ z)) (sym la) ∙ take-append_seam a z in
    let rest : post_of 16 16 (a ++ z) ≡ [] = drop_all 16 (drop 16 (a ++ z))
    (omega (arith, length-drop 16 (a ++ z), length-append a z)) in
    ap₂ (λ (x y : List ℕ). x ++ (b ++ y)) front rest ∙ ap (λ (y : List ℕ). a ++ y) (append-nil b)

pub returns : goal.returns
returns c =
    halves c.copy_from_slice.new.self c.copy_from_slice-2.new.self _ c.copy_from_slice.ensures.len refl
    ∙ ap₂ (λ (x y : List ℕ). x ++ y) c.copy_from_slice.ensures.after c.copy_from_slice-2.ensures.after
