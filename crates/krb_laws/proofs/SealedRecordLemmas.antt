-- A frame of each record within its limits.
use Rattle.std.proofs.Common.{ap, ℤ, ◌≡◌, ℕ, ◌+◌, ◌≤◌, List, [], ◌∷◌, length, slice_get, zero, suc, Some, refl, sym, subst, arith, length-append}
use Rattle.std.specs.List.{flat_map}
use Rattle.std.specs.Prelude.{min, map, slice_index, Option, None, false}
use Rattle.krb_der.specs.declared.address.HostAddress.{HostAddress}
use Rattle.std.proofs.lemmas.List.Sums.{sum_by-cons}
use Rattle.krb_base.specs.Bytes.{AreBytes}
use Rattle.krb_base.specs.Limits.{user_data_limit, last_number}
use Rattle.krb_der.specs.Moment.{last_moment}
use Rattle.krb_etype.specs.declared.etype.Etype.{Etype}
use Rattle.krb_etype.specs.Etype.{confounder_size, number_of}
use Rattle.krb_record.specs.declared.record.Record.{Record}
use Rattle.krb_record.specs.declared.record.Record.TheVariants as records
use Rattle.krb_record.specs.Batch.{text_bytes, texts_size}
use Rattle.krb_record.specs.Record.{FitsLimits, bytes_of}
use Rattle.krb_seal.specs.Exists.{HasHosts, CanBeSealed}
use Rattle.krb_seal.specs.Sealer.{SealerState}
use Rattle.krb_seal.specs.Seals.{Seals, sealed}
use Rattle.krb_seal.proofs.ExistsLemmas.{one_exists}
use Rattle.krb_seal.specs.declared.session.Expect.{Expect}
use Rattle.krb_seal.specs.Laws.{ReceiverAgrees}
use Rattle.krb_seal.specs.Opens.{opener_of}
use Rattle.krb_peers.specs.Moments.{moment_at}
use Rattle.krb_peers.specs.Order.{first_demand}
use Rattle.krb_peers.specs.ReceiverState.{ReceiverState}
use Rattle.krb_peers.specs.Session.{FitLimits, Sealed, SealsAt}
use Rattle.krb_peers.proofs.FrameLemmas.{all_readable}
use Rattle.krb_laws.specs.SealedRecords.{OneFrameOfEachRecord, RecordsAreSealed, RecordsCanBeTaken}

-- ---- records

texts_fit : (texts : List (List ℕ)) → length (flat_map text_bytes texts) ≤ texts_size texts
texts_fit [] = omega arith
texts_fit (text ∷ texts) =
    omega (arith, texts_fit texts, length-append (text_bytes text) (flat_map text_bytes texts), sum_by-cons (λ (t : List ℕ). 4 + length t) text texts)

record_fits : (r : Record) → FitsLimits r → length (bytes_of r) ≤ user_data_limit
record_fits (records.Text text) fits = omega (arith, fits)
record_fits (records.Batch texts) fits = omega (arith, fits.small, texts_fit texts)
record_fits records.Close fits = omega arith

pub one_of_each : OneFrameOfEachRecord
one_of_each etype sealer k at r conf frame known hosts fits bytes number moment confounder drawn =
    let can : CanBeSealed (sealer.next + k) at (bytes_of r) conf = record { number = number; moment = moment; few = record_fits r fits; bytes = bytes; confounder = confounder; drawn = drawn } in
    rw (← known) (one_exists etype sealer.key sealer.session (sealer.next + k) at (bytes_of r) conf frame hosts can)

-- ---- all records of a session

module _ (etype : Etype) (sealer : SealerState) (at : ℕ) (conf : List ℕ) (known : number_of etype ≡ sealer.etype) (hosts : HasHosts sealer.session) (moment : at ≤ last_moment) (long : length conf ≡ confounder_size) (drawn : AreBytes conf) where
  abbrev sealed_at : ℕ → Record → Sealed
  sealed_at n r = record { carried = r; at = at; frame = sealed etype sealer.key sealer.session n (bytes_of r) at conf }

  abbrev all_from : ℕ → List Record → List Sealed
  all_from n [] = []
  all_from n (r ∷ rs) = sealed_at n r ∷ all_from (suc n) rs

  as_many : (n : ℕ) (rs : List Record) → length (all_from n rs) ≡ length rs
  as_many n [] = refl
  as_many n (r ∷ rs) = ap suc (as_many (suc n) rs)

  seals_record : (n : ℕ) (r : Record) → FitsLimits r → AreBytes (bytes_of r) → n ≤ last_number → SealsAt sealer n (sealed_at n r)
  seals_record n r fits bytes small =
      let can : CanBeSealed n at (bytes_of r) conf = record { number = small; moment = moment; few = record_fits r fits; bytes = bytes; confounder = long; drawn = drawn } in
      let frame = sealed etype sealer.key sealer.session n (bytes_of r) at conf in
      record { confounder = conf; seals = subst (λ (t : ℤ). Seals t sealer.key sealer.session n (bytes_of r) at conf frame) known ((one_exists etype sealer.key sealer.session n at (bytes_of r) conf frame hosts can).1 refl) }

  each_from : (n : ℕ) (rs : List Record) → FitLimits rs → ((k : ℕ) (r : Record) → slice_get rs k ≡ Some r → AreBytes (bytes_of r)) → n + length rs ≤ last_number + 1
      → (k : ℕ) (it : Sealed) → slice_get (all_from n rs) k ≡ Some it → (slice_get rs k ≡ Some it.carried) × SealsAt sealer (n + k) it
  each_from n [] fits bytes room k it is = absurd (let e = is in cc)
  each_from n (r ∷ rs) fits bytes room zero it is =
      let same : sealed_at n r ≡ it = cc in
      let zero_more : n ≡ n + 0 = omega arith in
      (ap (λ (z : Sealed). Some z.carried) same, subst (λ (z : Sealed). SealsAt sealer (n + 0) z) same (subst (λ m. SealsAt sealer m (sealed_at n r)) zero_more (seals_record n r (fits 0 r refl) (bytes 0 r refl) (omega (arith, room)))))
  each_from n (r ∷ rs) fits bytes room (suc k) it is =
      let w = each_from (suc n) rs (λ j x at_j. fits (suc j) x at_j) (λ j x at_j. bytes (suc j) x at_j) (omega (arith, room)) k it is in
      let place : suc n + k ≡ n + suc k = omega arith in
      (w.0, subst (λ m. SealsAt sealer m it) place w.1)

  -- each carries its record, and was sealed at the moment
  carried_is : (n : ℕ) (rs : List Record) → map (λ (it : Sealed). it.carried) (all_from n rs) ≡ rs
  carried_is n [] = refl
  carried_is n (r ∷ rs) = ap (λ l. r ∷ l) (carried_is (suc n) rs)

  moment_is : (n : ℕ) (rs : List Record) (k : ℕ) (it : Sealed) → slice_get (all_from n rs) k ≡ Some it → it.at ≡ at
  moment_is n [] k it is = absurd (let e = is in cc)
  moment_is n (r ∷ rs) zero it is =
      let same : sealed_at n r ≡ it = cc in
      ap (λ (z : Sealed). z.at) (sym same)
  moment_is n (r ∷ rs) (suc k) it is = moment_is (suc n) rs k it is

pub are_sealed : RecordsAreSealed
are_sealed etype sealer rs at conf known hosts fits bytes room moment long drawn = (
  all_from etype sealer at conf known hosts moment long drawn sealer.next rs,
  record {
    one_each = as_many etype sealer at conf known hosts moment long drawn sealer.next rs;
    each = λ k it is. let w = each_from etype sealer at conf known hosts moment long drawn sealer.next rs fits bytes room k it is in record { there = w.0; seals = w.1 };
  },
)

-- ---- a receiver that agrees

receiver_in : Option HostAddress → HostAddress → HostAddress
receiver_in None other = other
receiver_in (Some a) other = a

agrees : (x : Expect) (r : Option HostAddress) (other : HostAddress) → x.require_r ≡ false → x.r_addr ≡ receiver_in r other → ReceiverAgrees x r
unfolding receiver_in
agrees x None other required is = required
agrees x (Some a) other required is = sym is

moment_of_one : (at k : ℕ) → moment_at (at ∷ []) k ≡ at
moment_of_one at k = ap (λ i. slice_index (at ∷ []) i) (let e : min k 0 ≡ 0 = omega arith in e)

taker : SealerState → ReceiverState
taker sealer =
    let s = sealer.session in
    let x : Expect = record { mode = s.mode; s_addr = s.s_addr; r_addr = receiver_in s.r_addr s.s_addr; require_r = false; expect_time = false; skew = 0 } in
    record { opener = opener_of sealer.etype sealer.key x; demand = first_demand sealer.next }

pub can_be_taken : RecordsCanBeTaken
unfolding taker are_sealed
can_be_taken etype sealer rs at conf known hosts fits last bytes room moment long drawn =
    let all = are_sealed etype sealer rs at conf known hosts fits bytes room moment long drawn in
    let receiver = taker sealer in (
      all.0,
      receiver,
      carried_is etype sealer at conf known hosts moment long drawn sealer.next rs,
      record {
        are = record { readable = all_readable rs fits; close_last = last };
        fit = fits;
        each = all.1;
        has_key = record { etype = refl; key = refl };
        demand = refl;
        agree = λ k it is. record {
          mode = refl;
          sender = refl;
          receiver = agrees receiver.opener.expect sealer.session.r_addr sealer.session.s_addr refl refl;
          current = rw (moment_of_one at k, moment_is etype sealer at conf known hosts moment long drawn sealer.next rs k it is) (omega arith);
        };
      },
    )
