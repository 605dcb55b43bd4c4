-- That all premises of a delivery can be met at once.
use Rattle.std.proofs.Common.{◌≡◌, ℕ, suc, ◌+◌, ◌<◌, ◌≤◌, ◌==◌, nat_lt, Bool, true, false, List, [], ◌∷◌, ◌++◌, length, map, slice_get, Some, None, refl, sym, ap, ap₂, subst, ◌∙◌, arith, inl, append_assoc, append-nil}
use Rattle.std.specs.Prelude.{All}
use Rattle.std.specs.List.{flat_map}
use Rattle.std.proofs.lemmas.Bool.{eq-eqb, lt-ltb}
use Rattle.std.proofs.lemmas.List.{take_all, length-map}
use Rattle.std.proofs.lemmas.List.Elements.{All-cons, All-nil}
use Rattle.std.specs.Option.{option_map}
use Rattle.std.proofs.lemmas.Option.{slice_get_within, slice_get-map}
use Rattle.krb_record.specs.declared.record.Record.{Record}
use Rattle.krb_record.specs.declared.record.Record.TheVariants.{Text, Batch, Close}
use Rattle.krb_seal.specs.Laws.{Agree}
use Rattle.krb_seal.specs.Sealer.{SealerState}
use Rattle.krb_peers.specs.Attempt.{CanTakeAll}
use Rattle.krb_peers.specs.ReceiverState.{ReceiverState}
use Rattle.krb_peers.specs.Moments.{moment_at}
use Rattle.krb_carry.specs.ProgressState.{ProgressState}
use Rattle.krb_carry.specs.Progress.{counted, new_progress, Happening, Store, Confirm, after, after_all, IsTruthful}
use Rattle.krb_peers.specs.Session.{AreRecords, Sealed, AreSealed}
use Rattle.krb_carry.specs.Shard.{Item, frames_of, StandsAt, Stands}
use Rattle.krb_carry.specs.Outbox.{Put, has_close_put, puts_of, records_in, puts_in, Outbox, new_outbox, sealed_in, Sealing, IsSealing, Act, Insert, Seal, IsAct, with_put, with_frames, LeadsOutbox}
use Rattle.krb_carry.specs.Reading.{Reading, StoredShard, IsReading}
use Rattle.krb_carry.specs.Store.{new_session, applied}
use Rattle.krb_carry.specs.Laws.{HasDelivery}
use Rattle.krb_peers.proofs.AnswerLemmas.{image}
use Rattle.krb_peers.proofs.HappenLemmas.{taking_all, is_attempt, demanded_at}
use Rattle.krb_peers.proofs.MomentLemmas.{one_moment}
use Rattle.krb_carry.proofs.ShardLemmas.{item_of, own_item}
use Rattle.krb_carry.proofs.OutboxLemmas.{IsLast, it-numbered}

-- ---- all is put in, and then sealed at once

-- where a close is
record HasClosePut (puts : List Put) : Type 0 where
  pub front : List Put
  pub back : List Put
  pub is : puts ≡ front ++ None ∷ back

close_put : (puts : List Put) → has_close_put puts ≡ true → HasClosePut puts
close_put [] any = absurd (let e : false ≡ true = any in cc)
close_put (Some text ∷ puts) any =
    let there = close_put puts any in
    record { front = Some text ∷ there.front; back = there.back; is = ap (λ l. Some text ∷ l) there.is }
close_put (None ∷ puts) any = record { front = []; back = puts; is = refl }

no_more : {X : Type 0} (xs : List X) (y : X) (ys : List X) → xs ++ y ∷ ys ≡ [] → ⊥
no_more [] y ys is = let e = is in cc
no_more (x ∷ xs) y ys is = let e = is in cc

open_yet : (puts : List Put) (put : Put) (more : List Put) → IsLast (puts ++ put ∷ more) → has_close_put puts ≡ false
open_yet puts put more last = by_test (has_close_put puts) refl
  where
    by_test : (b : Bool) → has_close_put puts ≡ b → has_close_put puts ≡ false
    by_test false is = is
    by_test true is =
        let there = close_put puts is in
        let whole : puts ++ put ∷ more ≡ there.front ++ None ∷ (there.back ++ put ∷ more) =
        ap (λ l. l ++ put ∷ more) there.is ∙ append_assoc there.front (None ∷ there.back) (put ∷ more) in
        absurd (no_more there.back put more (last there.front (there.back ++ put ∷ more) whole))

abbrev with_all : Outbox → List Put → Outbox
with_all outbox puts = record outbox { inserted = outbox.inserted ++ puts; waiting = outbox.waiting ++ puts }

insert_all : (old : Outbox) (puts : List Put) (more : List Act) (new : Outbox) → IsLast (old.inserted ++ puts) → LeadsOutbox (with_all old puts) more new → LeadsOutbox old (map Insert puts ++ more) new
insert_all old [] more new last leads =
    let same : with_all old [] ≡ old = ap₂ (λ xs ys. let o : Outbox = record old { inserted = xs; waiting = ys } in o) (append-nil old.inserted) (append-nil old.waiting) in
    subst (λ o. LeadsOutbox o more new) same leads
insert_all old (put ∷ puts) more new last leads =
    let regrouped = append_assoc old.inserted (put ∷ []) puts in
    let same : with_all old (put ∷ puts) ≡ with_all (with_put old put) puts =
    ap₂ (λ xs ys. let o : Outbox = record old { inserted = xs; waiting = ys } in o) (sym regrouped) (sym (append_assoc old.waiting (put ∷ []) puts)) in (
      with_put old put,
      inl (open_yet old.inserted put puts last, refl),
      insert_all (with_put old put) puts more new (subst IsLast (sym regrouped) last) (subst (λ o. LeadsOutbox o more new) same leads),
    )

-- a close among what records carry is the record of a close
record FromClose (rs : List Record) (back : List Put) : Type 0 where
  pub front : List Record
  pub rest : List Record
  pub is : rs ≡ front ++ Close ∷ rest
  pub back_is : back ≡ flat_map puts_of rest

after_texts : (texts : List (List ℕ)) (puts front back : List Put) → map Some texts ++ puts ≡ front ++ None ∷ back → (later : List Put) × (puts ≡ later ++ None ∷ back)
after_texts [] puts front back is = (front, is)
after_texts (text ∷ texts) puts [] back is =
    let e : Some text ∷ (map Some texts ++ puts) ≡ None ∷ back = is in
    let head : ◌≡◌ {A = Put} (Some text) None = cc in
    absurd (let f = head in cc)
after_texts (text ∷ texts) puts (f ∷ front) back is =
    let e : Some text ∷ (map Some texts ++ puts) ≡ f ∷ (front ++ None ∷ back) = is in
    let tail : map Some texts ++ puts ≡ front ++ None ∷ back = cc in
    after_texts texts puts front back tail

from_close : (rs : List Record) (front back : List Put) → flat_map puts_of rs ≡ front ++ None ∷ back → FromClose rs back
from_close [] [] back is = absurd (let e = is in cc)
from_close [] (f ∷ front) back is = absurd (let e = is in cc)
from_close (Text text ∷ rs) front back is =
    let later = after_texts (text ∷ []) (flat_map puts_of rs) front back is in
    let there = from_close rs (later.0) back later.1 in
    record { front = Text text ∷ there.front; rest = there.rest; is = ap (λ l. Text text ∷ l) there.is; back_is = there.back_is }
from_close (Batch texts ∷ rs) front back is =
    let later = after_texts texts (flat_map puts_of rs) front back is in
    let there = from_close rs (later.0) back later.1 in
    record { front = Batch texts ∷ there.front; rest = there.rest; is = ap (λ l. Batch texts ∷ l) there.is; back_is = there.back_is }
from_close (Close ∷ rs) [] back is =
    let e : None ∷ flat_map puts_of rs ≡ None ∷ back = is in
    let tail : flat_map puts_of rs ≡ back = cc in
    record { front = []; rest = rs; is = refl; back_is = sym tail }
from_close (Close ∷ rs) (f ∷ front) back is =
    let e : None ∷ flat_map puts_of rs ≡ f ∷ (front ++ None ∷ back) = is in
    let tail : flat_map puts_of rs ≡ front ++ None ∷ back = cc in
    let there = from_close rs front back tail in
    record { front = Close ∷ there.front; rest = there.rest; is = ap (λ l. Close ∷ l) there.is; back_is = there.back_is }

puts_last : (sealed : List Sealed) → AreRecords (records_in sealed) → IsLast (puts_in sealed)
puts_last sealed are front back is =
    let there = from_close (records_in sealed) front back is in
    there.back_is ∙ ap (λ rs. flat_map puts_of rs) (are.close_last there.front there.rest there.is)

module _ (sealer : SealerState) (sealed : List Sealed) (receiver : ReceiverState) (nows : List ℕ) (can : CanTakeAll sealer (records_in sealed) sealed receiver nows) where
  abbrev sealing : Sealing
  sealing = record { from = sealer.next; sealed = sealed }

  abbrev pub acts : List Act
  acts = map Insert (puts_in sealed) ++ Seal sealing ∷ []

  abbrev pub outbox : Outbox
  outbox = with_frames (with_all (new_outbox sealer) (puts_in sealed)) sealing []

  is_sealing : IsSealing sealer sealing
  is_sealing = record {
    frames = λ i it at. ((can.each).each i it at).seals;
    limits = λ i it at. can.fit i it.carried ((can.each).each i it at).there;
  }

  pub all_acts : All (IsAct sealer) acts
  all_acts = each (puts_in sealed)
    where
      each : (puts : List Put) → All (IsAct sealer) (map Insert puts ++ Seal sealing ∷ [])
      each [] = All-cons (IsAct sealer) (Seal sealing) [] is_sealing (All-nil (IsAct sealer))
      each (put ∷ puts) = All-cons (IsAct sealer) (Insert put) (map Insert puts ++ Seal sealing ∷ []) tt (each puts)

  pub acts_lead : LeadsOutbox (new_outbox sealer) acts outbox
  acts_lead =
      insert_all (new_outbox sealer) (puts_in sealed) (Seal sealing ∷ []) outbox (puts_last sealed can.are)
      (outbox, inl (refl, ([], sym (append-nil (puts_in sealed)), refl)), refl)

  pub sealed_is : sealed_in outbox ≡ sealed
  sealed_is = it-numbered sealer.next sealed

-- ---- each frame is stored once, and each is confirmed

abbrev pub shard_of : List Sealed → List Item
shard_of sealed = map (λ (it : Sealed). item_of 0 it.frame) sealed

pub frames-shard : (sealed : List Sealed) → frames_of 0 (shard_of sealed) ≡ map (λ (it : Sealed). it.frame) sealed
frames-shard [] = refl
frames-shard (it ∷ sealed) = own_item 0 it.frame (shard_of sealed) ∙ ap (λ l. it.frame ∷ l) (frames-shard sealed)

abbrev pub confirms : ℕ → ℕ → List Sealed → List Happening
confirms first k [] = []
confirms first k (it ∷ sealed) = Confirm (first + k) (k + 1) ∷ confirms first (k + 1) sealed

-- this far
pub record IsAt (first k : ℕ) (p : ProgressState) : Type 0 where
  pub carried : p.carried ≡ first + k
  pub at : p.at ≡ k

one_confirmed : (first k : ℕ) (p : ProgressState) → IsAt first k p → first + k < p.next → after p (Confirm (first + k) (k + 1)) ≡ counted p (k + 1)
one_confirmed first k p is lt =
    let number : (first + k == p.carried) ≡ true = eq-eqb (first + k) p.carried (sym is.carried) in
    let stored : nat_lt p.carried p.next ≡ true = lt-ltb p.carried p.next (omega (arith, is.carried, lt)) in
    let later : nat_lt p.at (k + 1) ≡ true = lt-ltb p.at (k + 1) (omega (arith, is.at)) in
    rw (number, stored, later) refl

pub all_confirmed : (first k : ℕ) (sealed : List Sealed) (p : ProgressState) → IsAt first k p → first + k + length sealed ≤ p.next → IsAt first (k + length sealed) (after_all p (confirms first k sealed))
all_confirmed first k [] p is le = record { carried = omega (arith, is.carried); at = omega (arith, is.at) }
all_confirmed first k (it ∷ sealed) p is le =
    let q = counted p (k + 1) in
    let step = one_confirmed first k p is (omega (arith, le)) in
    let there : IsAt first (k + 1) q = record { carried = omega (arith, is.carried); at = refl } in
    let rest = all_confirmed first (k + 1) sealed q there (omega (arith, le)) in
    let n : k + 1 + length sealed ≡ k + suc (length sealed) = omega arith in
    subst (λ s. IsAt first (k + suc (length sealed)) (after_all s (confirms first (k + 1) sealed))) (sym step) (subst (λ m. IsAt first m (after_all q (confirms first (k + 1) sealed))) n rest)

-- each of these confirmations is true
pub stands_at : (sealer : SealerState) (records : List Record) (sealed : List Sealed) → AreSealed sealer records sealed → (k : ℕ) (it : Sealed) → slice_get sealed k ≡ Some it → StandsAt sealer records 0 (shard_of sealed) k k
stands_at sealer records sealed are k it at = record {
  it = it;
  sealed = are.each k it at;
  there = slice_get-map (λ (s : Sealed). item_of 0 s.frame) sealed k ∙ ap (λ o. option_map (λ (s : Sealed). item_of 0 s.frame) o) at;
}

pub all_true : (sealer : SealerState) (records : List Record) (sealed : List Sealed) → AreSealed sealer records sealed → (k : ℕ) (rest : List Sealed) → ((i : ℕ) (it : Sealed) → slice_get rest i ≡ Some it → slice_get sealed (k + i) ≡ Some it)
    → All (IsTruthful sealer records 0 (shard_of sealed)) (confirms sealer.next k rest)
all_true sealer records sealed are k [] there = All-nil (IsTruthful sealer records 0 (shard_of sealed))
all_true sealer records sealed are k (it ∷ rest) there =
    let here : k + 0 ≡ k = omega arith in
    let stands : Stands sealer records 0 (shard_of sealed) (sealer.next + k) (k + 1) = record {
      k = k;
      number_is = refl;
      place = k;
      offset_is = refl;
      stands = stands_at sealer records sealed are k it (ap (λ n. slice_get sealed n) (sym here) ∙ there 0 it refl);
    } in
    All-cons (IsTruthful sealer records 0 (shard_of sealed)) (Confirm (sealer.next + k) (k + 1)) (confirms sealer.next (k + 1) rest) stands (
    all_true sealer records sealed are (k + 1) rest (λ i other at.
    let next : k + 1 + i ≡ k + suc i = omega arith in
    ap (λ n. slice_get sealed n) next ∙ there (suc i) other at))

-- ---- all of it at once

pub delivery : (sealer : SealerState) (sealed : List Sealed) (receiver : ReceiverState) (nows : List ℕ) → CanTakeAll sealer (records_in sealed) sealed receiver nows → HasDelivery sealer sealed
delivery sealer sealed receiver nows can =
    let n = length sealed in
    let first = sealer.next in
    let records = records_in sealed in
    let kept = sealed_is sealer sealed receiver nows can in
    let shard = shard_of sealed in
    let attempt = taking_all sealer records sealed receiver nows can in
    let reading : Reading = record { from = 0; count = n; attempt = attempt } in
    let stored : StoredShard = record { offset = 0 + n; session = applied (new_session sealer) attempt } in
    let start = after (new_progress first) (Store n) in
    let begun : IsAt first 0 start = record { carried = omega arith; at = refl } in
    let end = all_confirmed first 0 sealed start begun (omega arith) in
    let is_reading : IsReading sealer records 0 shard reading = record {
      attempt = is_attempt sealer records sealed receiver nows can;
      takes = sym (frames-shard sealed) ∙ ap (λ items. frames_of 0 items) (sym (take_all n shard (omega (arith, length-map sealed (λ (it : Sealed). item_of 0 it.frame)))));
      agree = λ k place it its taken demanded.
          let mine = image (λ (s : Sealed). s.frame) sealed place it.frame taken in
          let own = (can.each).each place mine.source mine.at in
          let number = demanded_at sealer records sealed receiver nows can place (omega (arith, slice_get_within sealed place mine.source mine.at)) in
          let at : mine.source.at ≡ it.at = one_moment sealer receiver.opener.expect (sealer.next + place) (sealer.next + k) mine.source it own.seals its.seals (sym mine.is) in
          subst (λ at. Agree sealer.session receiver.opener.expect at (moment_at nows place)) at (can.agree place mine.source mine.at);
    } in
    record {
      acts = acts sealer sealed receiver nows can;
      outbox = outbox sealer sealed receiver nows can;
      are_acts = all_acts sealer sealed receiver nows can;
      lead = acts_lead sealer sealed receiver nows can;
      sealed_is = kept;
      none_waits = refl;
      shard = shard;
      happenings = Store n ∷ confirms first 0 sealed;
      are_true = subst (λ s. All (IsTruthful sealer (records_in s) 0 shard) (Store n ∷ confirms first 0 sealed)) (sym kept) (
          All-cons (IsTruthful sealer records 0 shard) (Store n) (confirms first 0 sealed) tt (
          all_true sealer records sealed can.each 0 sealed (λ i it at. let same : 0 + i ≡ i = omega arith in rw same at)));
      readings = reading ∷ [];
      stored = stored;
      are_readings = subst (λ s. All (IsReading sealer (records_in s) 0 shard) (reading ∷ [])) (sym kept) (
          All-cons (IsReading sealer records 0 shard) reading [] is_reading (All-nil (IsReading sealer records 0 shard)));
      read = (stored, inl (refl, sym can.demand, refl), refl);
      carried = omega (arith, end.carried);
      past = omega (arith, end.at);
    }
