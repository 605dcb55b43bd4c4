-- A second and a text name one time of the calendar exactly where the text is the second's, and
-- where the text reads as it.
use Rattle.std.proofs.Common.{◌≡◌, ℕ, ◌+◌, ◌-◌, ◌*◌, ◌/◌, ◌%◌, ◌<◌, ◌≤◌, true, cond, leb, ltb, ◌&&◌, List, [], ◌∷◌, ◌++◌, Some, None, refl, sym, ap, subst, ◌∙◌, arith, ℤ, pos, ◌+ℤ◌, ◌*ℤ◌}
use Rattle.std.specs.Char.{is_ascii_digit}
use Rattle.std.proofs.lemmas.Bool.{le-leb, leb-true, lt-ltb, ltb-true, eqb-true}
use Rattle.jiff_core.specs.Calendar.{days_from_civil, days_in_month, IsDate}
use Rattle.jiff_core.specs.Time.{IsTime}
use Rattle.jiff_core.proofs.CalendarLemmas.{days_in_month_bounds}
use Rattle.jiff_core.proofs.SignedLemmas.{signed_arith}
use Rattle.krb_time.specs.Calendar.{day_number, year_of, month_of, day_of}
use Rattle.krb_time.specs.Time.{last_second, digit, two_digits, time_text, kerberos_time, IsKerberosTime, NamesSameTime}
use Rattle.krb_time.specs.Reading.{zulu, pair_of, is_zulu, is_date, is_clock, second_of, time_of}
use Rattle.krb_base.proofs.OptionSteps.{bind_some, provided, some_is, both, together}
use Rattle.krb_time.proofs.Calendar.{IsCommonDate, year_of-number, month_of-number, day_of-number, found_date, number-bound, days-number}

-- ---- the times of the calendar, in natural numbers

-- as NamesSameTime, of these numbers
pub record Parts (s : ℕ) (text : List ℕ) (y mo d h mi se : ℕ) : Type 0 where
  pub date : IsCommonDate y mo d
  pub hour : h < 24
  pub minute : mi < 60
  pub second : se < 60
  pub counted : s ≡ 86400 * day_number y mo d + 3600 * h + 60 * mi + se
  pub spelt : text ≡ time_text y mo d h mi se

-- the date and the time of day that a count of seconds has
apart : (n h mi se s : ℕ) → h < 24 → mi < 60 → se < 60 → s ≡ 86400 * n + 3600 * h + 60 * mi + se → (s / 86400 ≡ n) × (s % 86400 / 3600 ≡ h) × (s % 3600 / 60 ≡ mi) × (s % 60 ≡ se)
apart n h mi se s a b c e = (omega arith, omega arith, omega arith, omega arith)

pub same_text : (y mo d h mi se Y M D H I S : ℕ) → Y ≡ y → M ≡ mo → D ≡ d → H ≡ h → I ≡ mi → S ≡ se → time_text y mo d h mi se ≡ time_text Y M D H I S
same_text y mo d h mi se Y M D H I S e1 e2 e3 e4 e5 e6 = rw (e1, e2, e3, e4, e5, e6) refl

pub parts-text : (s : ℕ) (text : List ℕ) (y mo d h mi se : ℕ) → Parts s text y mo d h mi se → (s ≤ last_second) × (text ≡ kerberos_time s)
unfolding kerberos_time
parts-text s text y mo d h mi se p =
    let n = day_number y mo d in
    let a = apart (day_number y mo d) h mi se s p.hour p.minute p.second p.counted in
    let last = number-bound y mo d p.date in (
      omega (arith, p.counted, p.hour, p.minute, p.second),
      p.spelt ∙ same_text y mo d h mi se (year_of (s / 86400)) (month_of (s / 86400)) (day_of (s / 86400)) (s % 86400 / 3600) (s % 3600 / 60) (s % 60)
          (ap year_of a.0 ∙ year_of-number y mo d p.date)
          (ap month_of a.0 ∙ month_of-number y mo d p.date)
          (ap day_of a.0 ∙ day_of-number y mo d p.date)
          a.1 a.2 a.3,
    )

whole : (s n : ℕ) → s / 86400 ≡ n → s ≡ 86400 * n + 3600 * (s % 86400 / 3600) + 60 * (s % 3600 / 60) + s % 60
whole s n e = omega arith

pub text-parts : (s : ℕ) → s ≤ last_second → Parts s (kerberos_time s) (year_of (s / 86400)) (month_of (s / 86400)) (day_of (s / 86400)) (s % 86400 / 3600) (s % 3600 / 60) (s % 60)
unfolding kerberos_time
text-parts s le =
    let f = found_date (s / 86400) (omega arith) in
    record {
      date = f.date;
      hour = omega arith;
      minute = omega arith;
      second = omega arith;
      counted = whole s (day_number (year_of (s / 86400)) (month_of (s / 86400)) (day_of (s / 86400))) (sym f.number);
      spelt = refl;
    }

-- ---- the same in the words of jiff

counted_in : (z : ℤ) (n h mi se s : ℕ) → z ≡ pos n → s ≡ 86400 * n + 3600 * h + 60 * mi + se → pos s ≡ z *ℤ pos 86400 +ℤ pos (3600 * h + 60 * mi + se)
counted_in z n h mi se s e c = rw e (omega (arith, signed_arith))

counted_out : (z : ℤ) (n h mi se s : ℕ) → z ≡ pos n → pos s ≡ z *ℤ pos 86400 +ℤ pos (3600 * h + 60 * mi + se) → s ≡ 86400 * n + 3600 * h + 60 * mi + se
counted_out z n h mi se s e c = omega (arith, signed_arith)

pub date-signed : (y mo d : ℕ) → IsCommonDate y mo d → IsDate (pos y) (pos mo) (pos d)
date-signed y mo d k = (
  (omega (arith, signed_arith, k.year_high), omega (arith, signed_arith, k.year_high)),
  (omega (arith, signed_arith, k.month_low), omega (arith, signed_arith, k.month_high)),
  (omega (arith, signed_arith, k.day_low), omega (arith, signed_arith, k.day_high)),
)

pub clock-signed : (h mi se : ℕ) → h < 24 → mi < 60 → se < 60 → IsTime (pos h) (pos mi) (pos se) (pos 0)
clock-signed h mi se a b c = (
  (omega (arith, signed_arith), omega (arith, signed_arith)),
  (omega (arith, signed_arith), omega (arith, signed_arith)),
  (omega (arith, signed_arith), omega (arith, signed_arith)),
  (omega (arith, signed_arith), omega (arith, signed_arith)),
)

pub parts-named : (s : ℕ) (text : List ℕ) (y mo d h mi se : ℕ) → Parts s text y mo d h mi se → NamesSameTime s text
parts-named s text y mo d h mi se p =
    let k = p.date in
    record {
      year = y;
      month = mo;
      day = d;
      hour = h;
      minute = mi;
      second = se;
      from_1970 = k.year_low;
      date = date-signed y mo d k;
      clock = clock-signed h mi se p.hour p.minute p.second;
      counted = counted_in (days_from_civil (pos y) mo d) (day_number y mo d) h mi se s (days-number y mo d k) p.counted;
      spelt = p.spelt;
    }

common : (y mo d : ℕ) → 1970 ≤ y → IsDate (pos y) (pos mo) (pos d) → IsCommonDate y mo d
common y mo d low h = record {
  year_low = low;
  year_high = omega (arith, signed_arith, h.0.1);
  month_low = omega (arith, signed_arith, h.1.0);
  month_high = omega (arith, signed_arith, h.1.1);
  day_low = omega (arith, signed_arith, h.2.0);
  day_high = omega (arith, signed_arith, h.2.1);
}

pub named-parts : (s : ℕ) (text : List ℕ) → (m : NamesSameTime s text) → Parts s text m.year m.month m.day m.hour m.minute m.second
named-parts s text m =
    let k = common m.year m.month m.day m.from_1970 m.date in
    record {
      date = k;
      hour = omega (arith, signed_arith, m.clock.0.1);
      minute = omega (arith, signed_arith, m.clock.1.1);
      second = omega (arith, signed_arith, m.clock.2.1);
      counted = counted_out (days_from_civil (pos m.year) m.month m.day) (day_number m.year m.month m.day) m.hour m.minute m.second s (days-number m.year m.month m.day k) m.counted;
      spelt = m.spelt;
    }

-- ---- reading digits

digit-is : (n : ℕ) → is_ascii_digit (digit n) ≡ true
digit-is n = let lt : n % 10 < 10 = omega arith in together (leb 48 (48 + n % 10)) (leb (48 + n % 10) 57) (le-leb _ _ (omega arith)) (le-leb _ _ (omega arith))

pair-again : (n : ℕ) (rest : List ℕ) → n < 100 → pair_of (two_digits n ++ rest) ≡ Some (n, rest)
unfolding pair_of
pair-again n rest lt =
    let value : 10 * (48 + n / 10 % 10 - 48) + (48 + n % 10 - 48) ≡ n = omega arith in
    rw (digit-is (n / 10), digit-is n, value) refl

record Pair (text : List ℕ) (x : ℕ × List ℕ) : Type 0 where
  pub parts : text ≡ two_digits x.0 ++ x.1
  pub below : x.0 < 100

pair-cells : (a b : ℕ) (rest : List ℕ) → 48 ≤ a → a ≤ 57 → 48 ≤ b → b ≤ 57 → Pair (a ∷ b ∷ rest) (10 * (a - 48) + (b - 48), rest)
pair-cells a b rest al ah bl bh =
    let q : 48 + (10 * (a - 48) + (b - 48)) / 10 % 10 ≡ a = omega arith in
    let r : 48 + (10 * (a - 48) + (b - 48)) % 10 ≡ b = omega arith in
    record { parts = rw (q, r) refl; below = omega arith }

pair-found : (text : List ℕ) (x : ℕ × List ℕ) → pair_of text ≡ Some x → Pair text x
unfolding pair_of
pair-found [] x e = absurd cc
pair-found (a ∷ []) x e = absurd cc
pair-found (a ∷ b ∷ rest) x e =
    let p = provided (is_ascii_digit a && is_ascii_digit b) _ x e in
    let d = both (is_ascii_digit a) (is_ascii_digit b) p.0 in
    let da = both (leb 48 a) (leb a 57) d.0 in
    let db = both (leb 48 b) (leb b 57) d.1 in
    subst (Pair (a ∷ b ∷ rest)) (some_is _ x p.1) (pair-cells a b rest (leb-true _ _ da.0) (leb-true _ _ da.1) (leb-true _ _ db.0) (leb-true _ _ db.1))

zulu-is : (rest : List ℕ) → is_zulu rest ≡ true → rest ≡ zulu ∷ []
zulu-is [] e = absurd cc
zulu-is (b ∷ []) e = ap (λ (k : ℕ). k ∷ []) (eqb-true b 90 e)
zulu-is (b ∷ c ∷ rest) e = absurd cc

-- ---- reading a date and a time of day

date-yes : (y m d : ℕ) → IsCommonDate y m d → is_date y m d ≡ true
date-yes y m d h =
    together (leb 1970 y && leb 1 m && leb m 12 && leb 1 d) (leb d (days_in_month (pos y) m))
    (together (leb 1970 y && leb 1 m && leb m 12) (leb 1 d)
    (together (leb 1970 y && leb 1 m) (leb m 12)
    (together (leb 1970 y) (leb 1 m) (le-leb _ _ h.year_low) (le-leb _ _ h.month_low))
    (le-leb _ _ h.month_high))
    (le-leb _ _ h.day_low))
    (le-leb _ _ h.day_high)

date-is : (y m d : ℕ) → y ≤ 9999 → is_date y m d ≡ true → IsCommonDate y m d
date-is y m d le e =
    let a = both (leb 1970 y && leb 1 m && leb m 12 && leb 1 d) (leb d (days_in_month (pos y) m)) e in
    let b = both (leb 1970 y && leb 1 m && leb m 12) (leb 1 d) a.0 in
    let c = both (leb 1970 y && leb 1 m) (leb m 12) b.0 in
    let f = both (leb 1970 y) (leb 1 m) c.0 in
    record { year_low = leb-true _ _ f.0; year_high = le; month_low = leb-true _ _ f.1; month_high = leb-true _ _ c.1; day_low = leb-true _ _ b.1; day_high = leb-true _ _ a.1 }

clock-yes : (h m s : ℕ) → h < 24 → m < 60 → s < 60 → is_clock h m s ≡ true
clock-yes h m s a b c = together (ltb h 24 && ltb m 60) (ltb s 60) (together (ltb h 24) (ltb m 60) (lt-ltb _ _ a) (lt-ltb _ _ b)) (lt-ltb _ _ c)

-- what second_of says
pub record Second (y mo d h mi se s : ℕ) : Type 0 where
  pub date : IsCommonDate y mo d
  pub hour : h < 24
  pub minute : mi < 60
  pub second : se < 60
  pub counted : s ≡ 86400 * day_number y mo d + 3600 * h + 60 * mi + se

pub second-is : (y mo d h mi se s : ℕ) → y ≤ 9999 → second_of y mo d h mi se ≡ Some s → Second y mo d h mi se s
second-is y mo d h mi se s le e =
    let p = provided (is_date y mo d && is_clock h mi se) _ s e in
    let q = both (is_date y mo d) (is_clock h mi se) p.0 in
    let c = both (ltb h 24 && ltb mi 60) (ltb se 60) q.1 in
    let f = both (ltb h 24) (ltb mi 60) c.0 in
    record { date = date-is y mo d le q.0; hour = ltb-true _ _ f.0; minute = ltb-true _ _ f.1; second = ltb-true _ _ c.1; counted = sym (some_is _ s p.1) }

pub second-yes : (y mo d h mi se s : ℕ) → Second y mo d h mi se s → second_of y mo d h mi se ≡ Some s
second-yes y mo d h mi se s k =
    rw (date-yes y mo d k.date, clock-yes h mi se k.hour k.minute k.second) (ap (λ (n : ℕ). Some n) (sym k.counted))

-- ---- reading all

abbrev cells : ℕ → ℕ → ℕ → ℕ → ℕ → ℕ → ℕ → List ℕ
cells c y mo d h mi se = two_digits c ++ (two_digits y ++ (two_digits mo ++ (two_digits d ++ (two_digits h ++ (two_digits mi ++ (two_digits se ++ zulu ∷ []))))))

time_of-cells : (c y mo d h mi se : ℕ) → c < 100 → y < 100 → mo < 100 → d < 100 → h < 100 → mi < 100 → se < 100 → time_of (cells c y mo d h mi se) ≡ second_of (100 * c + y) mo d h mi se
unfolding time_of
time_of-cells c y mo d h mi se lc ly lmo ld lh lmi lse =
    let e7 = pair-again se (zulu ∷ []) lse in
    let e6 = pair-again mi (two_digits se ++ zulu ∷ []) lmi in
    let e5 = pair-again h (two_digits mi ++ (two_digits se ++ zulu ∷ [])) lh in
    let e4 = pair-again d (two_digits h ++ (two_digits mi ++ (two_digits se ++ zulu ∷ []))) ld in
    let e3 = pair-again mo (two_digits d ++ (two_digits h ++ (two_digits mi ++ (two_digits se ++ zulu ∷ [])))) lmo in
    let e2 = pair-again y (two_digits mo ++ (two_digits d ++ (two_digits h ++ (two_digits mi ++ (two_digits se ++ zulu ∷ []))))) ly in
    let e1 = pair-again c (two_digits y ++ (two_digits mo ++ (two_digits d ++ (two_digits h ++ (two_digits mi ++ (two_digits se ++ zulu ∷ [])))))) lc in
    rw (e1, e2, e3, e4, e5, e6, e7) refl

-- the four digits of a year are those of its century and those of the year in the century
cells-text : (c y mo d h mi se : ℕ) → y < 100 → cells c y mo d h mi se ≡ time_text (100 * c + y) mo d h mi se
cells-text c y mo d h mi se lt =
    let e1 : (100 * c + y) / 1000 % 10 ≡ c / 10 % 10 = omega arith in
    let e2 : (100 * c + y) / 100 % 10 ≡ c % 10 = omega arith in
    let e3 : (100 * c + y) / 10 % 10 ≡ y / 10 % 10 = omega arith in
    let e4 : (100 * c + y) % 10 ≡ y % 10 = omega arith in
    rw (e1, e2, e3, e4) refl

glue : (n : ℕ) (text rest all : List ℕ) → text ≡ two_digits n ++ rest → rest ≡ all → text ≡ two_digits n ++ all
glue n text rest all p q = rw (p, q) refl

record Read (text : List ℕ) (c y mo d h mi se s : ℕ) : Type 0 where
  pub parts : text ≡ cells c y mo d h mi se
  pub century : c < 100
  pub year : y < 100
  pub second : second_of (100 * c + y) mo d h mi se ≡ Some s

finishes : (c y mo d h mi se s : ℕ) (rest : List ℕ) → (cond (is_zulu rest) (second_of (100 * c + y) mo d h mi se) None) ≡ Some s → (rest ≡ zulu ∷ []) × (second_of (100 * c + y) mo d h mi se ≡ Some s)
finishes c y mo d h mi se s rest e = let p = provided (is_zulu rest) _ s e in (zulu-is rest p.0, p.1)

time-read : (text : List ℕ) (s : ℕ) → time_of text ≡ Some s → (x : (ℕ × ℕ × ℕ × ℕ × ℕ × ℕ × ℕ)) × Read text x.0 x.1 x.2 x.3 x.4 x.5 x.6 s
unfolding time_of
time-read text s e =
    let c = bind_some (pair_of text) _ s e in
    let y = bind_some (pair_of c.0.1) _ s c.2 in
    let mo = bind_some (pair_of y.0.1) _ s y.2 in
    let d = bind_some (pair_of mo.0.1) _ s mo.2 in
    let h = bind_some (pair_of d.0.1) _ s d.2 in
    let mi = bind_some (pair_of h.0.1) _ s h.2 in
    let se = bind_some (pair_of mi.0.1) _ s mi.2 in
    let z = finishes c.0.0 y.0.0 mo.0.0 d.0.0 h.0.0 mi.0.0 se.0.0 s se.0.1 se.2 in
    let p1 = pair-found text c.0 c.1 in
    let p2 = pair-found c.0.1 y.0 y.1 in
    let p3 = pair-found y.0.1 mo.0 mo.1 in
    let p4 = pair-found mo.0.1 d.0 d.1 in
    let p5 = pair-found d.0.1 h.0 h.1 in
    let p6 = pair-found h.0.1 mi.0 mi.1 in
    let p7 = pair-found mi.0.1 se.0 se.1 in
    let w7 = glue se.0.0 mi.0.1 se.0.1 (zulu ∷ []) p7.parts z.0 in
    let w6 = glue mi.0.0 h.0.1 mi.0.1 _ p6.parts w7 in
    let w5 = glue h.0.0 d.0.1 h.0.1 _ p5.parts w6 in
    let w4 = glue d.0.0 mo.0.1 d.0.1 _ p4.parts w5 in
    let w3 = glue mo.0.0 y.0.1 mo.0.1 _ p3.parts w4 in
    let w2 = glue y.0.0 c.0.1 y.0.1 _ p2.parts w3 in
    let w1 = glue c.0.0 text c.0.1 _ p1.parts w2 in
    ((c.0.0, y.0.0, mo.0.0, d.0.0, h.0.0, mi.0.0, se.0.0), record { parts = w1; century = p1.below; year = p2.below; second = z.1 })

read-parts : (text : List ℕ) (c y mo d h mi se s : ℕ) → Read text c y mo d h mi se s → Parts s text (100 * c + y) mo d h mi se
read-parts text c y mo d h mi se s r =
    let k = second-is (100 * c + y) mo d h mi se s (omega (arith, r.century, r.year)) r.second in
    record { date = k.date; hour = k.hour; minute = k.minute; second = k.second; counted = k.counted; spelt = r.parts ∙ cells-text c y mo d h mi se r.year }

-- a text that reads as a second is that second's
pub time-found : (text : List ℕ) (s : ℕ) → time_of text ≡ Some s → (s ≤ last_second) × (text ≡ kerberos_time s)
time-found text s e =
    let r = time-read text s e in
    let x = r.0 in
    parts-text s text (100 * x.0 + x.1) x.2 x.3 x.4 x.5 x.6 (read-parts text x.0 x.1 x.2 x.3 x.4 x.5 x.6 s r.1)

parts-again : (s : ℕ) (text : List ℕ) (y mo d h mi se : ℕ) → Parts s text y mo d h mi se → time_of text ≡ Some s
parts-again s text y mo d h mi se p =
    let k = p.date in
    let days = days_in_month_bounds (pos y) mo in
    let year : 100 * (y / 100) + y % 100 ≡ y = omega arith in
    let low : y % 100 < 100 = omega arith in
    let spelt : text ≡ cells (y / 100) (y % 100) mo d h mi se = p.spelt ∙ sym (cells-text (y / 100) (y % 100) mo d h mi se low ∙ ap (λ (n : ℕ). time_text n mo d h mi se) year) in
    ap time_of spelt
    ∙ time_of-cells (y / 100) (y % 100) mo d h mi se (omega (arith, k.year_high)) low (omega (arith, k.month_high)) (omega (arith, k.day_high, days.0)) (omega (arith, p.hour)) (omega (arith, p.minute)) (omega (arith, p.second))
    ∙ ap (λ (n : ℕ). second_of n mo d h mi se) year
    ∙ second-yes y mo d h mi se s (record { date = k; hour = p.hour; minute = p.minute; second = p.second; counted = p.counted })

-- and the text of a second reads as it
pub time-again : (s : ℕ) → s ≤ last_second → time_of (kerberos_time s) ≡ Some s
time-again s le = parts-again s (kerberos_time s) _ _ _ _ _ _ (text-parts s le)

-- the law of the calendar, both ways
pub text-named : (s : ℕ) (text : List ℕ) → IsKerberosTime s text → NamesSameTime s text
text-named s text h =
    let p = text-parts s h.0 in
    parts-named s text _ _ _ _ _ _ (record { date = p.date; hour = p.hour; minute = p.minute; second = p.second; counted = p.counted; spelt = h.1 ∙ p.spelt })

pub named-text : (s : ℕ) (text : List ℕ) → NamesSameTime s text → IsKerberosTime s text
named-text s text m = parts-text s text _ _ _ _ _ _ (named-parts s text m)
