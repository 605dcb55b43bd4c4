-- Decimal numbers with one spelling each.
use Rattle.std.specs.Prelude.{ℕ, ◌+◌, ◌-◌, ◌*◌, ◌^◌, ◌==◌, nat_le, nat_lt, ℤ, pos, ◌-ℤ◌, Bool, true}
use Rattle.std.specs.Prelude.{false, not, ◌&&◌, List, [], ◌∷◌, length, Option, Some, None}
use Rattle.std.specs.Prelude.{if◌then◌else◌}
use Rattle.krb_base.specs.Steps.{◌>>=◌}

-- the value of a digit from `0` to `9`, which are 48 to 57
abbrev pub digit_of : ℕ → Option ℕ
digit_of c = if nat_le 48 c && nat_le c 57 then Some (c - 48) else None

-- the number that digits write after those of n
unfoldable pub digits_from : ℕ → List ℕ → Option ℕ
digits_from n [] = Some n
digits_from n (c ∷ cs) = digit_of c >>= λ d. digits_from (10 * n + d) cs

-- 0 alone, or no leading zero
abbrev pub is_plain : List ℕ → Bool
is_plain [] = false
is_plain (c ∷ []) = true
is_plain (c ∷ d ∷ cs) = not (c == 48)

-- the number of at most so many digits
abbrev pub decimal_of : ℕ → List ℕ → Option ℕ
decimal_of most text =
    if is_plain text && nat_le (length text) most then digits_from 0 text
    else None

-- Int32 ::= INTEGER (-2147483648..2147483647)
abbrev pub not_negative : ℕ → Option ℤ
not_negative n = if nat_lt n (2 ^ 31) then Some (pos n) else None

-- 0 has no sign
abbrev pub negative : ℕ → Option ℤ
negative n = if nat_le 1 n && nat_le n (2 ^ 31) then Some (pos 0 -ℤ pos n) else None

-- a minus sign, which is 45, and a number; or a number alone
abbrev pub int32_of : List ℕ → Option ℤ
int32_of [] = None
int32_of (c ∷ cs) =
    if c == 45 then decimal_of 10 cs >>= negative
    else decimal_of 10 (c ∷ cs) >>= not_negative
