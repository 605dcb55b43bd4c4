-- Lists, and the records of a session.
use Rattle.std.proofs.Common.{◌≡◌, ℕ, zero, suc, ◌<◌, ◌≤◌, Bool, true, false, List, [], ◌∷◌, ◌++◌, length, take, drop, slice_get, Some, refl, sym, ap, ◌∙◌, arith, length-append, append-nil, append_assoc}
use Rattle.std.specs.List.{list_any, flat_map}
use Rattle.std.proofs.lemmas.List.{length-take-le, take-append-drop}
use Rattle.std.proofs.Math.Seq.{take-append_seam}
use Rattle.krb_record.specs.declared.record.Record.{Record}
use Rattle.krb_record.specs.declared.record.Record.TheVariants as records
use Rattle.krb_record.specs.Record.{SpellsRecord, bytes_of, is_close}
use Rattle.krb_record.proofs.RecordLemmas.{one_record}
use Rattle.krb_peers.specs.Session.{FitLimits}
use Rattle.krb_peers.proofs.Parts.{CloseIsLastOf}

-- ---- lists

-- a longer front has no less
pub fewer : {X Y : Type 0} (f : X → List Y) (xs : List X) (i j : ℕ) → i ≤ j → length (flat_map f (take i xs)) ≤ length (flat_map f (take j xs))
fewer f xs zero j le = omega arith
fewer f xs (suc i) zero le = absurd (omega (arith, le))
fewer f [] (suc i) (suc j) le = omega arith
fewer f (x ∷ xs) (suc i) (suc j) le =
    omega (arith, fewer f xs i j (omega (arith, le)), length-append (f x) (flat_map f (take i xs)), length-append (f x) (flat_map f (take j xs)))

-- and none has more than all
pub none_more : {X Y : Type 0} (f : X → List Y) (xs : List X) (i : ℕ) → length (flat_map f (take i xs)) ≤ length (flat_map f xs)
none_more f xs zero = omega arith
none_more f [] (suc i) = omega arith
none_more f (x ∷ xs) (suc i) =
    omega (arith, none_more f xs i, length-append (f x) (flat_map f (take i xs)), length-append (f x) (flat_map f xs))

-- a front of a list whose length is known
pub front_is : {X : Type 0} (front rest whole : List X) (n : ℕ) → whole ≡ front ++ rest → length front ≡ n → front ≡ take n whole
front_is front rest whole n is count = rw (is, ← count) (sym (take-append_seam front rest))

pub no_rest : {X : Type 0} (front rest whole : List X) → whole ≡ front ++ rest → length whole ≤ length front → front ≡ whole
no_rest front [] whole is long = sym (is ∙ append-nil front)
no_rest front (x ∷ rest) whole is long =
    absurd (omega (arith, ap length is, long, length-append front (x ∷ rest)))

-- ---- the records of a session

-- where a close is
record HasClose (rs : List Record) : Type 0 where
  pub front : List Record
  pub back : List Record
  pub is : rs ≡ front ++ records.Close ∷ back

close_in : (rs : List Record) → list_any is_close rs ≡ true → HasClose rs
close_in [] any = absurd (let e : false ≡ true = any in cc)
close_in (records.Text text ∷ rs) any =
    let there = close_in rs any in
    record { front = records.Text text ∷ there.front; back = there.back; is = ap (λ l. records.Text text ∷ l) there.is }
close_in (records.Batch texts ∷ rs) any =
    let there = close_in rs any in
    record { front = records.Batch texts ∷ there.front; back = there.back; is = ap (λ l. records.Batch texts ∷ l) there.is }
close_in (records.Close ∷ rs) any = record { front = []; back = rs; is = refl }

pub none_of_both : {X : Type 0} (xs ys : List X) → xs ++ ys ≡ [] → ys ≡ []
none_of_both [] ys is = is
none_of_both (x ∷ xs) ys is = absurd (let e = is in cc)

module _ (rs : List Record) (close_last : CloseIsLastOf rs) where
  -- no record follows a front that has the close
  pub closed_whole : (n : ℕ) → list_any is_close (take n rs) ≡ true → take n rs ≡ rs
  closed_whole n any =
      let there = close_in (take n rs) any in
      let whole : rs ≡ there.front ++ records.Close ∷ (there.back ++ drop n rs) =
      sym (take-append-drop n rs) ∙ (ap (λ l. l ++ drop n rs) there.is ∙ append_assoc there.front (records.Close ∷ there.back) (drop n rs)) in
      let none = none_of_both there.back (drop n rs) (close_last there.front (there.back ++ drop n rs) whole) in
      sym (append-nil (take n rs)) ∙ (ap (λ l. take n rs ++ l) (sym none) ∙ take-append-drop n rs)

  pub quiet_before : (n : ℕ) → n < length rs → list_any is_close (take n rs) ≡ false
  quiet_before n lt = by_test (list_any is_close (take n rs)) refl
    where
      by_test : (b : Bool) → list_any is_close (take n rs) ≡ b → list_any is_close (take n rs) ≡ false
      by_test false is = is
      by_test true is = absurd (omega (arith, ap length (closed_whole n is), length-take-le n rs (omega (arith, lt)), lt))

pub none_of_front : {X : Type 0} (xs ys : List X) → xs ++ ys ≡ [] → xs ≡ []
none_of_front [] ys is = refl
none_of_front (x ∷ xs) ys is = absurd (let e = is in cc)

-- ---- records within their limits

pub all_readable : (rs : List Record) → FitLimits rs → (k : ℕ) (r : Record) → slice_get rs k ≡ Some r → (other : Record) → SpellsRecord other (bytes_of r) → r ≡ other
all_readable rs fits k r there other spelled = one_record (bytes_of r) r other (fits k r there, refl) spelled
