-- The limits that a job keeps.
use Rattle.std.specs.Prelude.{◌≤◌, ℕ, List, length, All}
use Rattle.krb_base.specs.Limits.{text_limit}

-- no text is too long
abbrev pub AreShortTexts : List (List ℕ) → Type 0
AreShortTexts texts = All (λ text. length text ≤ text_limit) texts
