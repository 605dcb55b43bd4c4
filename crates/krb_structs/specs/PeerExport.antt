-- The bytes of a peer's export, which have no secret.
use Rattle.std.specs.Prelude.{◌≡◌, ℕ, ◌≤◌, List, ◌∷◌, ◌++◌}
use Rattle.std.specs.Int.{w64, to_be_bytes}
use Rattle.krb_seal.specs.Sealer.{end_of_numbers}

-- the letters "krs" and the form's number 1, the number that is sealed next, and the one that is
-- expected, each of 8 octets, the most significant first
abbrev pub export_of : ℕ → ℕ → List ℕ
export_of next expected =
    0x6B ∷ 0x72 ∷ 0x73 ∷ 0x01 ∷ (to_be_bytes w64 next ++ to_be_bytes w64 expected)

-- the bytes are the export of these numbers, each of which is one over the last at most
pub record Exports (state : List ℕ) (next expected : ℕ) : Type 0 where
  pub bytes : state ≡ export_of next expected
  pub next_fits : next ≤ end_of_numbers
  pub expected_fits : expected ≤ end_of_numbers

-- the bytes are an export
abbrev pub IsExport : List ℕ → Type 0
IsExport state = (next : ℕ) × ((expected : ℕ) × Exports state next expected)

-- No bytes are the export of two pairs of numbers.
abbrev pub OneExport : Type 0
OneExport =
    (state : List ℕ) (n e next expected : ℕ) → Exports state n e → Exports state next expected
    → (n ≡ next) × (e ≡ expected)
