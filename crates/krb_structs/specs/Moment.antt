-- A moment as C writes it.
use Rattle.std.specs.Prelude.{◌≡◌, ℕ, ◌≤◌}
use Rattle.krb_der.specs.Time.{last_second}
use Rattle.krb_der.specs.Moment.{last_usec, moment_of}
use Rattle.krb_structs.specs.declared.moment.KrbMoment.{KrbMoment}

-- the microseconds since 1970-01-01T00:00:00Z
abbrev pub micros_of : KrbMoment → ℕ
micros_of m = moment_of m.seconds m.microseconds

-- it is a moment of the years 1970 to 9999
abbrev pub IsMoment : KrbMoment → Type 0
IsMoment m = (m.seconds ≤ last_second) × (m.microseconds ≤ last_usec)

-- it is one, and its reserved field is 0
abbrev pub IsTimed : KrbMoment → Type 0
IsTimed m = (m.reserved ≡ 0) × IsMoment m
