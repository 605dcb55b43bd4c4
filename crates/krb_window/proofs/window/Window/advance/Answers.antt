use Rattle.std.proofs.Common.{◌≡◌, arith, refl, w64, lit<, ◌∙◌}
use Rattle.std.proofs.lemmas.Nat.Bits.{bit_at_set_same, bit_at_set_other}
use Rattle.krb_window.proofs.window.Window.advance.Goals as goal

pub returns : goal.returns
returns c =
    let bits = c.shifted.result in
    record {
      highest = refl;
      newest = bit_at_set_same w64 bits 63 (lit< tt);
      others = λ i below. let other : i ≡ 63 → ⊥ = λ e. omega arith in
          bit_at_set_other w64 bits 63 (lit< tt) i other ∙ c.shifted.ensures.kept i;
      between = λ i below far. let other : i ≡ 63 → ⊥ = λ e. omega arith in
          bit_at_set_other w64 bits 63 (lit< tt) i other ∙ c.shifted.ensures.none i far;
    }
