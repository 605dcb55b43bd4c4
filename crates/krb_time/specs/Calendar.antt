-- Which date a day number names, in the calendar of jiff (ISO 8601), for the years 1970 to 9999.
use Rattle.std.specs.Prelude.{ℕ, zero, suc, ◌+◌, ◌-◌, pos, unsigned_abs, nat_le, if◌then◌else◌}
use Rattle.jiff_core.specs.Calendar.{days_from_civil}

-- the day number of a date of 1970 or later: the days since 1970-01-01
unfoldable pub day_number : ℕ → ℕ → ℕ → ℕ
day_number year month day = unsigned_abs (days_from_civil (pos year) month day)

-- the last k up to n whose first day f k isn't after the day, or 0
abbrev pub last_begun : (ℕ → ℕ) → ℕ → ℕ → ℕ
last_begun f day zero = 0
last_begun f day (suc n) = if nat_le (f (suc n)) day then suc n else last_begun f day n

-- the year of a day: the last one that has begun
unfoldable pub year_of : ℕ → ℕ
year_of day = 1970 + last_begun (λ k. day_number (1970 + k) 1 1) day (9999 - 1970)

-- the month of a day: the last one of the year that has begun
unfoldable pub month_of : ℕ → ℕ
month_of day = 1 + last_begun (λ k. day_number (year_of day) (1 + k) 1) day (12 - 1)

-- the day of the month of a day, from 1
unfoldable pub day_of : ℕ → ℕ
day_of day = day + 1 - day_number (year_of day) (month_of day) 1
