-- What the code follows, and no definitions of the standard: the second that a text names, read
-- from left to right. Private functions alone cite this file; the contract of `read_kerberos_time`
-- is in the words of Time.antt.
use Rattle.std.specs.Prelude.{ℕ, ◌+◌, ◌-◌, ◌*◌, Bool, false, ◌&&◌, List, [], ◌∷◌, Option, Some}
use Rattle.std.specs.Prelude.{None, pos, nat_lt, nat_le, nat_eq, if◌then◌else◌}
use Rattle.std.specs.Char.{is_ascii_digit}
use Rattle.jiff_core.specs.Calendar.{days_in_month}
use Rattle.krb_time.specs.Calendar.{day_number}
use Rattle.krb_base.specs.Steps.{◌>>=◌}

-- the character '0'
abbrev pub zero_digit : ℕ
zero_digit = 48

-- the character 'Z'
abbrev pub zulu : ℕ
zulu = 90

-- the number that two digits write, and what follows them
unfoldable pub pair_of : List ℕ → Option (ℕ × List ℕ)
pair_of [] = None
pair_of (a ∷ []) = None
pair_of (a ∷ b ∷ rest) =
    if is_ascii_digit a && is_ascii_digit b
    then Some (10 * (a - zero_digit) + (b - zero_digit), rest)
    else None

-- nothing is left but the 'Z'
abbrev pub is_zulu : List ℕ → Bool
is_zulu [] = false
is_zulu (b ∷ []) = nat_eq b zulu
is_zulu (b ∷ c ∷ rest) = false

-- the calendar has this date, and it isn't before 1970
abbrev pub is_date : ℕ → ℕ → ℕ → Bool
is_date year month day =
    nat_le 1970 year && nat_le 1 month && nat_le month 12
    && nat_le 1 day && nat_le day (days_in_month (pos year) month)

-- a clock shows this time of day
abbrev pub is_clock : ℕ → ℕ → ℕ → Bool
is_clock hour minute second = nat_lt hour 24 && nat_lt minute 60 && nat_lt second 60

-- the second that a date and a time of day name
abbrev pub second_of : ℕ → ℕ → ℕ → ℕ → ℕ → ℕ → Option ℕ
second_of year month day hour minute second =
    if is_date year month day && is_clock hour minute second
    then Some (86400 * day_number year month day + 3600 * hour + 60 * minute + second)
    else None

-- the second that a text names
unfoldable pub time_of : List ℕ → Option ℕ
time_of text = do
  century ← pair_of text
  year ← pair_of century.1
  month ← pair_of year.1
  day ← pair_of month.1
  hour ← pair_of day.1
  minute ← pair_of hour.1
  second ← pair_of minute.1
  if is_zulu second.1
      then second_of (100 * century.0 + year.0) month.0 day.0 hour.0 minute.0 second.0
      else None
