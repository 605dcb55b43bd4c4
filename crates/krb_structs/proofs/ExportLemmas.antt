-- What is read of an export.
use Rattle.std.proofs.Common.{◌≡◌, ℕ, Bool, true, false, List, take, drop, refl, sym, ap, ◌∙◌, arith}
use Rattle.std.specs.Prelude.{not}
use Rattle.std.specs.Str.{bytes_eq}
use Rattle.std.proofs.lemmas.Slice.Eq.{bytes_eq-Decides}
use Rattle.std.specs.Int.{w64, to_be_bytes, from_be_bytes}
use Rattle.std.proofs.lemmas.List.{take_at, drop_at}
use Rattle.std.proofs.lemmas.Nat.{from_be_bytes-to_be_bytes_8}
use Rattle.krb_structs.specs.PeerExport.{Exports, OneExport}

abbrev next_of : List ℕ → ℕ
next_of state = from_be_bytes w64 (take 8 (drop 4 state))

abbrev expected_of : List ℕ → ℕ
expected_of state = from_be_bytes w64 (take 8 (drop 12 state))

pub read_next : (state : List ℕ) (n e : ℕ) → Exports state n e → next_of state ≡ n
read_next state n e is =
    ap next_of is.bytes ∙ ap (from_be_bytes w64) (take_at (to_be_bytes w64 n) (to_be_bytes w64 e) 8 refl) ∙ from_be_bytes-to_be_bytes_8 n (omega (arith, is.next_fits))

pub read_expected : (state : List ℕ) (n e : ℕ) → Exports state n e → expected_of state ≡ e
read_expected state n e is =
    ap expected_of is.bytes ∙ ap (λ (z : List ℕ). from_be_bytes w64 (take 8 z)) (drop_at (to_be_bytes w64 n) (to_be_bytes w64 e) 8 refl) ∙ from_be_bytes-to_be_bytes_8 e (omega (arith, is.expected_fits))

pub one_export : OneExport
one_export state n e next expected one two =
    (sym (read_next state n e one) ∙ read_next state next expected two, sym (read_expected state n e one) ∙ read_expected state next expected two)

-- the numbers that were read are those of the export
pub read_both : (state : List ℕ) (a b n e : ℕ) → a ≡ next_of state → b ≡ expected_of state → Exports state n e → (a ≡ n) × (b ≡ e)
read_both state a b n e one two is = (one ∙ read_next state n e is, two ∙ read_expected state n e is)

untrue : (b : Bool) → true ≡ not b → b ≡ false
untrue true e = absurd (let wrong : true ≡ false = e in cc)
untrue false e = refl

-- bytes of which a test says that they differ
pub differ : (xs ys : List ℕ) → true ≡ not (bytes_eq xs ys) → xs ≡ ys → ⊥
differ xs ys e same = let wrong : true ≡ false = sym ((bytes_eq-Decides xs ys).1 same) ∙ untrue (bytes_eq xs ys) e in cc
