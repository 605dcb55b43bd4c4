-- A timestamp: a KerberosTime and its Microseconds (RFC 4120 sections 5.2.3 and 5.2.4), seen as the
-- number of microseconds since 1970-01-01T00:00:00Z.
use Rattle.std.specs.Prelude.{ℕ, ◌+◌, ◌-◌, ◌*◌, ◌/◌, ◌%◌, ◌≤◌}
use Rattle.krb_time.specs.Time.{last_second}

-- the number is one of Microseconds ::= INTEGER (0..999999)
abbrev pub IsMicroseconds : ℕ → Type 0
IsMicroseconds n = n ≤ 999_999

-- the microseconds of a second
abbrev pub micros_per_second : ℕ
micros_per_second = 1_000_000

-- the last of Microseconds
abbrev pub last_usec : ℕ
last_usec = micros_per_second - 1

-- the timestamp of a second and a number of microseconds
abbrev pub moment_of : ℕ → ℕ → ℕ
moment_of secs usec = micros_per_second * secs + usec

-- the last timestamp of the year 9999
abbrev pub last_moment : ℕ
last_moment = moment_of last_second last_usec

-- the whole seconds of a timestamp
abbrev pub secs_of : ℕ → ℕ
secs_of moment = moment / micros_per_second

-- the microseconds beyond the whole seconds
abbrev pub usec_of : ℕ → ℕ
usec_of moment = moment % micros_per_second
