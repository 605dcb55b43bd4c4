use Rattle.std.proofs.Common.{◌≡◌, ℕ, ℤ, ◌/◌, ◌%◌, arith, w8, w16, to_z, of_z, pos, refl, ap, ◌∙◌}
use Rattle.jiff_core.specs.declared.civil.datetime.DateTime.{DateTime}
use Rattle.jiff_core.proofs.CalendarLemmas.{days_in_month_bounds}
use Rattle.krb_time.specs.Calendar.{year_of, month_of, day_of}
use Rattle.krb_time.specs.Time.{kerberos_time}
use Rattle.krb_time.proofs.DateTimes.{Shows, shows, back}
use Rattle.krb_time.proofs.time.kerberos_time.Goals as goal

year-is : (z : ℤ) (s : ℕ) (dt : DateTime) → Shows dt s → z ≡ dt.date.year → to_z w16 (of_z w16 z) ≡ pos (year_of (s / 86400))
year-is z s dt k e = back w16 z _ (e ∙ k.date.year) (omega (arith, k.date.common.year_high))

pub overflow_cast-year : goal.overflow_cast-year
overflow_cast-year c =
    let k = shows c.civil-at.result c.args.secs c.requires c.civil-at.ensures in
    rw (year-is c.year-year.result c.args.secs c.civil-at.result k c.year-year.ensures) (tt, omega (arith, k.date.common.year_high))

pub returns : goal.returns
unfolding kerberos_time
returns c =
    let k = shows c.civil-at.result c.args.secs c.requires c.civil-at.ensures in
    let month : to_z w8 (of_z w8 c.month.result) ≡ pos (month_of (c.args.secs / 86400)) = back w8 c.month.result _ (c.month.ensures ∙ ap pos k.date.month) (omega (arith, k.date.common.month_high)) in
    let day : to_z w8 (of_z w8 c.day.result) ≡ pos (day_of (c.args.secs / 86400)) = back w8 c.day.result _ (c.day.ensures ∙ ap pos k.date.day_is) (omega (arith, k.date.common.day_high, days_in_month_bounds (pos (year_of (c.args.secs / 86400))) (month_of (c.args.secs / 86400)))) in
    let hour : to_z w8 (of_z w8 c.hour.result) ≡ pos (c.args.secs % 86400 / 3600) = back w8 c.hour.result _ (c.hour.ensures ∙ ap pos k.hour) (omega arith) in
    let minute : to_z w8 (of_z w8 c.minute.result) ≡ pos (c.args.secs % 3600 / 60) = back w8 c.minute.result _ (c.minute.ensures ∙ ap pos k.minute) (omega arith) in
    let second : to_z w8 (of_z w8 c.second.result) ≡ pos (c.args.secs % 60) = back w8 c.second.result _ (c.second.ensures ∙ ap pos k.second) (omega arith) in
    rw (c.digit.ensures, c.digit-2.ensures, c.digit-3.ensures, c.digit-4.ensures, c.digit-5.ensures, c.digit-6.ensures, c.digit-7.ensures, c.digit-8.ensures, c.digit-9.ensures, c.digit-10.ensures, c.digit-11.ensures, c.digit-12.ensures, c.digit-13.ensures, c.digit-14.ensures, year-is c.year-year.result c.args.secs c.civil-at.result k c.year-year.ensures, month, day, hour, minute, second) refl
