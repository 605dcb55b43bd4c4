use Rattle.std.proofs.Common.{◌≡◌, ℕ, ◌/◌, List, ◌++◌, length, take, drop, Some, None, Result, Ok, Err, refl, sym, ap, ◌∙◌, arith}
use Rattle.std.proofs.Math.Seq.{take-append_seam}
use Rattle.std.proofs.lemmas.Grind.{common_steps}
use Rattle.std.proofs.lemmas.Bool.Decides.{nat_tests}
use Rattle.std.specs.Prelude.{MatchResult, ok_or}
use Rattle.std.specs.Result.{result_ok}
use Rattle.hex.specs.Hex.{decode_of, decode_sized}
use Rattle.hex.specs.declared.error.FromHexError.{FromHexError}
use Rattle.krb_base.specs.Steps.{◌>>=◌}
use Rattle.krb_job.specs.Values.{sized, hex_of}
use Rattle.krb_job.proofs.FailLemmas.{err_memory}
use Rattle.krb_job.proofs.values.decode_secret.Goals as goal
use Rattle.krb_job.proofs.values.decode_secret.Goals.{in_default-via-in-Ok+else-as_slice-size, in_default-via-in_default}

halved : (text : List ℕ) (n : ℕ) → n ≡ length text / 2 → decode_sized text n ≡ decode_of text
halved text n is = grind (arith, nat_tests, common_steps)

exact : (bytes : List ℕ) (size : ℕ) → length bytes ≡ size → sized size size bytes ≡ Some bytes
exact bytes size is = grind (arith, nat_tests, common_steps)

inexact : (bytes : List ℕ) (size : ℕ) → (length bytes ≡ size → ⊥) → sized size size bytes ≡ None
inexact bytes size not = grind (arith, nat_tests, common_steps)

-- a block that was written whole
written : (len : ℕ) (out rest : List ℕ) → length out ≡ len → take len (out ++ rest) ≡ out
written len out rest is = rw (← is) (take-append_seam out rest)

abbrev Decoded : Result (List ℕ) FromHexError → Result Unit FromHexError → List ℕ → Type 0
Decoded made result out = MatchResult made (λ bytes. (result ≡ Ok tt) × (out ≡ bytes)) (λ e. result ≡ Err e)

module _ (result : Result Unit FromHexError) (out secret : List ℕ) (size : ℕ) where
  secret_is : (made : Result (List ℕ) FromHexError) (u : Unit) → Decoded made result out → result ≡ Ok u → secret ≡ out
      → length secret ≡ size → (result_ok made >>= sized size size) ≡ Some secret
  secret_is (Ok bytes) u h passed same fits = let all : bytes ≡ secret = sym (same ∙ h.1) in rw all (exact secret size fits)
  secret_is (Err e) u h passed same fits = absurd (let is = sym h ∙ passed in cc)

  wrong_size : (made : Result (List ℕ) FromHexError) (u : Unit) → Decoded made result out → result ≡ Ok u → secret ≡ out
      → (length secret ≡ size → ⊥) → (result_ok made >>= sized size size) ≡ None
  wrong_size (Ok bytes) u h passed same fits = let all : bytes ≡ secret = sym (same ∙ h.1) in rw all (inexact secret size fits)
  wrong_size (Err e) u h passed same fits = absurd (let is = sym h ∙ passed in cc)

  not_decoded : (made : Result (List ℕ) FromHexError) (e : FromHexError) → Decoded made result out → result ≡ Err e
      → (result_ok made >>= sized size size) ≡ None
  not_decoded (Ok bytes) e h failed = absurd (let is = sym h.0 ∙ failed in cc)
  not_decoded (Err f) e h failed = refl

pub returns-in_err-bytes : goal.returns-in_err-bytes
returns-in_err-bytes c = err_memory (λ b. b) c.from_residual.result (ok_or (hex_of c.args.size c.args.size c.args.text.now) c.args.place) c.from_residual.ensures

pub returns-in-Ok : goal.returns-in-Ok
returns-in-Ok c =
    let n = length c.deref_mut.result.now in
    let room : n ≡ length c.args.text.now / 2 = c.deref_mut.ensures.len ∙ c.in_ok-bytes.ensures.len in
    let out = c.decode_to_slice-decoded.new.out in
    let kept = c.new-secret.ensures ∙ written c.in_ok-bytes.bytes.len out (drop (length out) c.in_ok-bytes.bytes.items) (c.decode_to_slice-decoded.auto.out ∙ c.deref_mut.ensures.len) in
    let fits = ap (λ (b : List ℕ). length b) (sym c.as_slice.ensures) ∙ c.if-as_slice-size.true in
    rw (← halved c.args.text.now n room)
    (ap (λ o. ok_or o c.args.place) (secret_is c.decode_to_slice-decoded.result out c.new-secret.result c.args.size (decode_sized c.args.text.now n) c.in-Ok.field-0 c.decode_to_slice-decoded.ensures.value c.in-Ok.is kept fits))

pub returns-in_default : goal.returns-in_default
returns-in_default c =
    let n = length c.deref_mut.result.now in
    let room : n ≡ length c.args.text.now / 2 = c.deref_mut.ensures.len ∙ c.in_ok-bytes.ensures.len in
    let out = c.decode_to_slice-decoded.new.out in
    let kept = c.new-secret.ensures ∙ written c.in_ok-bytes.bytes.len out (drop (length out) c.in_ok-bytes.bytes.items) (c.decode_to_slice-decoded.auto.out ∙ c.deref_mut.ensures.len) in
    rw (← halved c.args.text.now n room)
    (ap (λ o. ok_or o c.args.place) (elim c.in_default.branch [
      | in_default-via-in-Ok+else-as_slice-size w ↦ wrong_size c.decode_to_slice-decoded.result out c.new-secret.result c.args.size (decode_sized c.args.text.now n) w.in-Ok.field-0 c.decode_to_slice-decoded.ensures.value w.in-Ok.is kept (λ fits. w.if-as_slice-size.false (ap (λ (b : List ℕ). length b) w.as_slice.ensures ∙ fits))
      | in_default-via-in_default w ↦ not_decoded c.decode_to_slice-decoded.result out c.new-secret.result c.args.size (decode_sized c.args.text.now n) w.in_default.field-0 c.decode_to_slice-decoded.ensures.value w.in_default.is
    ]))
