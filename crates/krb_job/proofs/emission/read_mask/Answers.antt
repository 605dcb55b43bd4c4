use Rattle.std.proofs.Common.{◌≡◌, ℕ, List, [], ◌∷◌, None, Some, Result, Ok, Err, refl, ap, length, sym, ◌∙◌}
use Rattle.std.specs.Prelude.{MatchResult, slice_get, slice_index}
use Rattle.std.specs.Result.{result_ok}
use Rattle.hex.specs.Hex.{decode_sized}
use Rattle.hex.specs.declared.error.FromHexError.{FromHexError}
use Rattle.krb_base.specs.Steps.{◌>>=◌}
use Rattle.krb_job.proofs.emission.read_mask.Goals as goal

first_of : (out bytes : List ℕ) → out ≡ bytes → length out ≡ 1 → Some (slice_index out 0) ≡ slice_get bytes 0
first_of [] bytes is one = absurd (let e = one in cc)
first_of (x ∷ rest) bytes is one = ap (λ (z : List ℕ). slice_get z 0) is

mask_is : (made : Result (List ℕ) FromHexError) (result : Result Unit FromHexError) (out : List ℕ)
    → MatchResult made (λ bytes. (result ≡ Ok tt) × (out ≡ bytes)) (λ e. result ≡ Err e) → length out ≡ 1 → result_ok result ≡ Some tt
    → Some (slice_index out 0) ≡ (result_ok made >>= λ bytes. slice_get bytes 0)
mask_is (Ok bytes) result out h one passed = first_of out bytes h.1 one
mask_is (Err e) result out h one passed = absurd (let is = sym passed ∙ ap result_ok h in cc)

no_mask : (made : Result (List ℕ) FromHexError) (result : Result Unit FromHexError) (out : List ℕ)
    → MatchResult made (λ bytes. (result ≡ Ok tt) × (out ≡ bytes)) (λ e. result ≡ Err e) → None ≡ result_ok result
    → None ≡ (result_ok made >>= λ bytes. slice_get bytes 0)
no_mask (Ok bytes) result out h failed = absurd (let is = failed ∙ ap result_ok h.0 in cc)
no_mask (Err e) result out h failed = refl

pub returns-in_err-ok : goal.returns-in_err-ok
returns-in_err-ok c =
    c.from_residual.ensures ∙ no_mask (decode_sized c.args.digits.now 1) c.decode_to_slice.result c.decode_to_slice.new.out c.decode_to_slice.ensures.value c.in_err-ok.ensures.value

pub returns : goal.returns
returns c = mask_is (decode_sized c.args.digits.now 1) c.decode_to_slice.result c.decode_to_slice.new.out c.decode_to_slice.ensures.value (c.decode_to_slice.auto.out) (sym c.in_ok-ok.ensures.value)
