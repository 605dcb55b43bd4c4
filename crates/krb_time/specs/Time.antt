-- A KerberosTime (RFC 4120 section 5.2.3): a GeneralizedTime (X.680) of the one form
-- YYYYMMDDHHMMSSZ, in UTC and with no fraction of a second.
use Rattle.std.specs.Prelude.{◌≡◌, ℕ, ◌+◌, ◌*◌, ◌/◌, ◌%◌, ◌≤◌, List, [], ◌∷◌, ◌++◌, pos, ◌+ℤ◌, ◌*ℤ◌}
use Rattle.jiff_core.specs.Calendar.{IsDate, days_from_civil}
use Rattle.jiff_core.specs.Time.{IsTime}
use Rattle.krb_time.specs.Calendar.{year_of, month_of, day_of}

-- 9999-12-31T23:59:59Z in seconds since 1970-01-01T00:00:00Z: the last second whose year has four
-- digits
abbrev pub last_second : ℕ
last_second = 253_402_300_799

-- the last decimal digit of a number, as a character: '0' is 48
abbrev pub digit : ℕ → ℕ
digit n = 48 + n % 10

-- the last two decimal digits
abbrev pub two_digits : ℕ → List ℕ
two_digits n = digit (n / 10) ∷ digit n ∷ []

-- the text YYYYMMDDHHMMSSZ of a date and a time of day: 'Z', which says that it is in UTC, is 90
abbrev pub time_text : ℕ → ℕ → ℕ → ℕ → ℕ → ℕ → List ℕ
time_text year month day hour minute second =
    digit (year / 1000) ∷ digit (year / 100) ∷ two_digits year
    ++ (two_digits month ++ (two_digits day
    ++ (two_digits hour ++ (two_digits minute ++ (two_digits second ++ 90 ∷ [])))))

-- the text of a second, counted from 1970-01-01T00:00:00Z
unfoldable pub kerberos_time : ℕ → List ℕ
kerberos_time s =
    time_text (year_of (s / 86400)) (month_of (s / 86400)) (day_of (s / 86400))
    (s % 86400 / 3600) (s % 3600 / 60) (s % 60)

-- the text is that of the second
abbrev pub IsKerberosTime : ℕ → List ℕ → Type 0
IsKerberosTime s text = (s ≤ last_second) × (text ≡ kerberos_time s)

-- the second is one that has a text: its year is at most 9999
abbrev pub IsSecond : ℕ → Type 0
IsSecond s = s ≤ last_second

-- a second and a text name the same date of the calendar and time of day, in the years 1970 to
-- 9999: the second by counting from 1970-01-01T00:00:00Z, the text by its digits
pub record NamesSameTime (s : ℕ) (text : List ℕ) : Type 0 where
  pub year : ℕ
  pub month : ℕ
  pub day : ℕ
  pub hour : ℕ
  pub minute : ℕ
  pub second : ℕ
  pub from_1970 : 1970 ≤ year
  pub date : IsDate (pos year) (pos month) (pos day)
  pub clock : IsTime (pos hour) (pos minute) (pos second) (pos 0)
  pub counted :
      pos s
      ≡ days_from_civil (pos year) month day *ℤ pos 86400
      +ℤ pos (3600 * hour + 60 * minute + second)
  pub spelt : text ≡ time_text year month day hour minute second
