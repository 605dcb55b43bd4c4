-- Seconds since 1970-01-01T00:00:00 and jiff's datetimes: which date and time of day a second has,
-- and which second they name.
use Rattle.std.proofs.Common.{◌≡◌, ◌⊎◌, inl, inr, ℕ, ◌+◌, ◌*◌, ◌/◌, ◌%◌, ◌^◌, ◌<◌, ◌≤◌, Option, Some, None, Result, Ok, Err, refl, sym, ap, subst, ◌∙◌, arith, ℤ, pos, ◌+ℤ◌, ◌-ℤ◌, ◌*ℤ◌, to_z, of_z, lit≤}
use Rattle.std.specs.Prelude.{◌↔◌, IsOk, IfOk, int_div}
use Rattle.std.specs.Int.{Width}
use Rattle.std.specs.Result.{result_ok}
use Rattle.std.proofs.lemmas.Int.{to_z_pos}
use mir.Val.{hbits}
use Rattle.jiff_core.specs.declared.error.Error.{Error}
use Rattle.jiff_core.specs.declared.civil.datetime.DateTime.{DateTime}
use Rattle.jiff_core.specs.Date.{epoch_day}
use Rattle.jiff_core.specs.DateTime.{civil_nanos}
use Rattle.jiff_core.specs.Time.{time_nanos}
use Rattle.jiff_core.specs.Calendar.{IsDate}
use Rattle.jiff_core.specs.Date.{IsYmd}
use Rattle.jiff_core.specs.Time.{IsTime, IsHms}
use Rattle.jiff_core.proofs.DateTimeLemmas.{civil_nanos-parts, time_nanos_bound}
use Rattle.jiff_core.proofs.SignedLemmas.{signed_arith}
use Rattle.jiff_core.proofs.CalendarLemmas.{day_count-epoch}
use Rattle.krb_time.specs.Calendar.{day_number}
use Rattle.krb_time.specs.Time.{last_second}
use Rattle.krb_time.specs.Reading.{second_of}
use Rattle.krb_base.proofs.OptionSteps.{some_is}
use Rattle.krb_time.proofs.Calendar.{IsCommonDate, Named, named, dated, number-count, number-bound}
use Rattle.krb_time.proofs.Times.{second-is, second-yes, date-signed, clock-signed}

-- the datetime has the date and the time of day of the second s
pub record Shows (dt : DateTime) (s : ℕ) : Type 0 where
  pub date : Named dt.date (s / 86400)
  pub hour : dt.time.hour ≡ s % 86400 / 3600
  pub minute : dt.time.minute ≡ s % 3600 / 60
  pub second : dt.time.second ≡ s % 60

-- nanoseconds, as whole days and what is left
whole_days : (day : ℤ) (nanos s : ℕ) → nanos < 86_400_000_000_000 → day *ℤ pos 86_400_000_000_000 +ℤ pos nanos ≡ pos (1_000_000_000 * s) → (day ≡ pos (s / 86400)) × (nanos ≡ 1_000_000_000 * (s % 86400))
whole_days day nanos s lt e = (omega (arith, signed_arith), omega (arith, signed_arith))

-- the seconds of a day, as hours, minutes and seconds
clock_parts : (h m s n t : ℕ) → h < 24 → m < 60 → s < 60 → n < 1_000_000_000 → (h * 3600 + m * 60 + s) * 1_000_000_000 + n ≡ 1_000_000_000 * t → (h ≡ t / 3600) × (m ≡ t % 3600 / 60) × (s ≡ t % 60)
clock_parts h m s n t a b c d e =
    let whole : h * 3600 + m * 60 + s ≡ t = omega arith in
    (omega arith, omega arith, omega arith)

-- the datetime that many seconds after the start of 1970
pub shows : (dt : DateTime) (s : ℕ) → s ≤ last_second → civil_nanos dt ≡ pos (1_000_000_000 * s) → Shows dt s
shows dt s le e =
    let days = whole_days (epoch_day dt.date) (time_nanos dt.time) s (time_nanos_bound dt.time) (sym (civil_nanos-parts dt) ∙ e) in
    let day : s / 86400 ≤ 2932896 = omega arith in
    let clock = clock_parts dt.time.hour dt.time.minute dt.time.second dt.time.subsec_nanosecond (s % 86400) (omega arith) (omega arith) (omega arith) (omega arith) days.1 in
    record {
      date = named dt.date (s / 86400) day days.0;
      hour = clock.0;
      minute = omega (arith, clock.1);
      second = omega (arith, clock.2);
    }

pos_is : (a b : ℕ) → pos a ≡ pos b → a ≡ b
pos_is a b e = cc

-- the nanoseconds of a day number and a time of day
in_seconds : (z : ℤ) (n h mi se nanos : ℕ) → z ≡ pos n → nanos ≡ (3600 * h + 60 * mi + se) * 1_000_000_000 → z *ℤ pos 86_400_000_000_000 +ℤ pos nanos ≡ pos (1_000_000_000 * (86400 * n + 3600 * h + 60 * mi + se))
in_seconds z n h mi se nanos e f = rw e (omega (arith, signed_arith))

-- the day number of 1970-01-01 is 0
first_day : day_number 1970 1 1 ≡ 0
first_day = omega (arith, number-count 1970 1 1 (lit≤ tt) (lit≤ tt), day_count-epoch)

-- a datetime's date is one of 1970 or later, and its nanoseconds are those of its parts
record Counted (dt : DateTime) (y mo d h mi se : ℕ) : Type 0 where
  pub common : IsCommonDate y mo d
  pub nanos : civil_nanos dt ≡ pos (1_000_000_000 * (86400 * day_number y mo d + 3600 * h + 60 * mi + se))

counted : (dt : DateTime) (y mo d h mi se : ℕ) → 1970 ≤ y → IsYmd (pos y) (pos mo) (pos d) dt.date → IsHms (pos h) (pos mi) (pos se) (pos 0) dt.time → Counted dt y mo d h mi se
counted dt y mo d h mi se low ymd hms =
    let k = dated dt.date y mo d low ymd.0 (pos_is _ _ ymd.1) (pos_is _ _ ymd.2) in
    let clock : time_nanos dt.time ≡ (3600 * h + 60 * mi + se) * 1_000_000_000 = omega (arith, pos_is _ _ hms.0, pos_is _ _ hms.1, pos_is _ _ hms.2, pos_is _ _ hms.3) in
    record {
      common = k.common;
      nanos = civil_nanos-parts dt ∙ in_seconds (epoch_day dt.date) (day_number y mo d) h mi se (time_nanos dt.time) k.number clock;
    }

pub epoch-nanos : (dt : DateTime) → IsYmd (pos 1970) (pos 1) (pos 1) dt.date → IsHms (pos 0) (pos 0) (pos 0) (pos 0) dt.time → civil_nanos dt ≡ pos 0
epoch-nanos dt ymd hms = (counted dt 1970 1 1 0 0 0 (lit≤ tt) ymd hms).nanos ∙ ap pos (omega (arith, first_day))

-- q is a second that a Kerberos time can have, and the reading found it
pub record FindsSecond (q : ℤ) (read : Option ℕ) : Type 0 where
  pub s : ℕ
  pub value : q ≡ pos s
  pub last : s ≤ last_second
  pub found : read ≡ Some s

-- the whole seconds between the nanoseconds a and b, where b is 0
between : (a b g q : ℤ) (n : ℕ) → a ≡ pos (1_000_000_000 * n) → b ≡ pos 0 → g ≡ a -ℤ b → q ≡ int_div g (pos 1_000_000_000) → q ≡ pos n
between a b g q n ea eb eg eq = omega (arith, signed_arith)

-- a datetime's seconds since the start of 1970, as duration_since and as_secs give them, are what
-- reading its parts finds
pub seconds : (dt start : DateTime) (g q : ℤ) (y mo d h mi se : ℕ) → 1970 ≤ y → IsYmd (pos y) (pos mo) (pos d) dt.date → IsHms (pos h) (pos mi) (pos se) (pos 0) dt.time → civil_nanos start ≡ pos 0 → g ≡ civil_nanos dt -ℤ civil_nanos start → q ≡ int_div g (pos 1_000_000_000) → FindsSecond q (second_of y mo d h mi se)
seconds dt start g q y mo d h mi se low ymd hms zero eg eq =
    let k = counted dt y mo d h mi se low ymd hms in
    let n = 86400 * day_number y mo d + 3600 * h + 60 * mi + se in
    let hour : h < 24 = omega (arith, pos_is _ _ hms.0) in
    let minute : mi < 60 = omega (arith, pos_is _ _ hms.1) in
    let second : se < 60 = omega (arith, pos_is _ _ hms.2) in
    record {
      s = 86400 * day_number y mo d + 3600 * h + 60 * mi + se;
      value = between (civil_nanos dt) (civil_nanos start) g q n k.nanos zero eg eq;
      last = omega (arith, number-bound y mo d k.common);
      found = second-yes y mo d h mi se n (record { date = k.common; hour = hour; minute = minute; second = second; counted = refl });
    }

cases_option : {A : Type 0} (r : Option A) → (r ≡ None) ⊎ ((x : A) × (r ≡ Some x))
cases_option None = inl refl
cases_option (Some x) = inr (x, refl)

no_value : {A E : Type 0} (r : Result A E) → result_ok r ≡ None → IsOk r → ⊥
no_value (Ok x) e h = absurd cc
no_value (Err x) e h = absurd cc

-- what is known of a value after Ok
pub ok_value : {A E : Type 0} (P : A → Type 0) (r : Result A E) (x : A) → Some x ≡ result_ok r → IfOk r P → P x
ok_value P (Ok y) x e h = subst P (sym (some_is x y e)) h
ok_value P (Err y) x e h = absurd cc

-- where jiff has no such datetime, nothing is read
pub no-second : (r : Result DateTime Error) (y mo d h mi se : ℕ) → y ≤ 9999 → result_ok r ≡ None → (IsOk r ↔ (IsDate (pos y) (pos mo) (pos d) × IsTime (pos h) (pos mi) (pos se) (pos 0))) → second_of y mo d h mi se ≡ None
no-second r y mo d h mi se le e ok =
    elim (cases_option (second_of y mo d h mi se)) [
      | inl none ↦ none
      | inr some ↦
          let k = second-is y mo d h mi se some.0 le some.1 in
          absurd (no_value r e (ok.1 (date-signed y mo d k.date, clock-signed h mi se k.hour k.minute k.second)))
    ]

-- a number that is not negative comes through a cast as it was
pub back : (w : Width) (z : ℤ) (n : ℕ) → z ≡ pos n → n < 2 ^ hbits w → to_z w (of_z w z) ≡ pos n
back w z n e lt = rw e (to_z_pos w n lt)
