-- Parts of a text.
use Rattle.std.specs.Prelude.{ℕ, ◌+◌, ◌==◌, List, take, drop, Option, Some}
use Rattle.std.specs.List.{position}
use Rattle.krb_base.specs.Steps.{◌>>=◌}

-- the text before the first such byte, and the text after it
abbrev pub split_at : ℕ → List ℕ → Option (List ℕ × List ℕ)
split_at byte text = position (λ b. b == byte) text >>= λ i. Some (take i text, drop (i + 1) text)
