-- The universal tags of X.680, section 8.4, by name. The definitions of the elements have their
-- numbers; what the code follows has these names.
use Rattle.std.specs.Prelude.{ℕ}

-- INTEGER
abbrev pub integer_tag : ℕ
integer_tag = 0x02

-- OCTET STRING
abbrev pub octet_string_tag : ℕ
octet_string_tag = 0x04

-- GeneralizedTime
abbrev pub generalized_time_tag : ℕ
generalized_time_tag = 0x18

-- SEQUENCE
abbrev pub sequence_tag : ℕ
sequence_tag = 0x30
