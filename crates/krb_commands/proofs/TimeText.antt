-- The fifteen bytes of a time are text.
use Rattle.std.proofs.Common.{ℕ, zero, suc, ◌/◌, ◌%◌, List, [], ◌∷◌, ◌++◌, arith}
use Rattle.std.specs.Str.{IsAscii, IsUtf8}
use Rattle.std.proofs.lemmas.Str.{IsAscii-append, IsUtf8-from_ascii}
use Rattle.krb_der.specs.Calendar.{year_of, month_of, day_of}
use Rattle.krb_der.specs.Time.{kerberos_time, time_text, digit, two_digits}

two-ascii : (n : ℕ) → IsAscii (two_digits n)
two-ascii n zero = omega arith
two-ascii n (suc zero) = omega arith
two-ascii n (suc (suc i)) = omega arith

four-ascii : (n : ℕ) → IsAscii (digit (n / 1000) ∷ digit (n / 100) ∷ two_digits n)
four-ascii n zero = omega arith
four-ascii n (suc zero) = omega arith
four-ascii n (suc (suc i)) = two-ascii n i

zulu-ascii : IsAscii (90 ∷ [])
zulu-ascii zero = omega arith
zulu-ascii (suc i) = omega arith

text-ascii : (year month day hour minute second : ℕ) → IsAscii (time_text year month day hour minute second)
text-ascii year month day hour minute second =
    let seconds : List ℕ = two_digits second ++ 90 ∷ [] in
    let minutes : List ℕ = two_digits minute ++ seconds in
    let hours : List ℕ = two_digits hour ++ minutes in
    let days : List ℕ = two_digits day ++ hours in
    let months : List ℕ = two_digits month ++ days in
    IsAscii-append (digit (year / 1000) ∷ digit (year / 100) ∷ two_digits year) months (four-ascii year)
    (IsAscii-append (two_digits month) days (two-ascii month)
    (IsAscii-append (two_digits day) hours (two-ascii day)
    (IsAscii-append (two_digits hour) minutes (two-ascii hour)
    (IsAscii-append (two_digits minute) seconds (two-ascii minute)
    (IsAscii-append (two_digits second) (90 ∷ []) (two-ascii second) zulu-ascii)))))

pub IsUtf8-kerberos_time : (s : ℕ) → IsUtf8 (kerberos_time s)
unfolding kerberos_time
IsUtf8-kerberos_time s =
    IsUtf8-from_ascii _
    (text-ascii (year_of (s / 86400)) (month_of (s / 86400)) (day_of (s / 86400)) (s % 86400 / 3600) (s % 3600 / 60) (s % 60))
