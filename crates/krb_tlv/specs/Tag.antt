-- Identifier octets (X.690 section 8.1.2): the class, whether the content is made of elements, and
-- the number.
use Rattle.std.specs.Prelude.{ℕ, ◌+◌}

-- the explicit tag [n] of a field
abbrev pub context : ℕ → ℕ
context n = 0xA0 + n

-- the tag [APPLICATION n]
abbrev pub application : ℕ → ℕ
application n = 0x60 + n
