-- What a store with compare-and-set has of a session.
use Rattle.std.proofs.Common.{◌≡◌, ◌≢◌, ℕ, ◌+◌, true, false, List, [], ◌∷◌, ◌++◌, length, take, drop, Ok, Err, refl, sym, ap, ap₂, subst, ◌∙◌, arith, inl, inr, length-append, append-nil}
use Rattle.std.specs.Prelude.{All}
use Rattle.std.specs.List.{list_any, flat_map}
use Rattle.std.proofs.lemmas.List.{length-take-le, nil_from_length, take-append-drop}
use Rattle.std.proofs.lemmas.List.Concat.{flat_map-append}
use Rattle.std.proofs.lemmas.List.Elements.{All-head, All-tail}
use Rattle.krb_base.specs.Prefix.{IsPrefix}
use Rattle.krb_record.specs.declared.record.Record.{Record}
use Rattle.krb_record.specs.Record.{texts_of, is_close}
use Rattle.krb_seal.specs.Opens.{OpenerState}
use Rattle.krb_seal.specs.Sealer.{SealerState}
use Rattle.krb_peers.specs.Demand.{Demand}
use Rattle.krb_peers.specs.Order.{demand_after, first_demand}
use Rattle.krb_peers.specs.Verdicts.{Verdict, accepted_by, delivered, records_of, AreVerdicts}
use Rattle.krb_peers.proofs.OrderLemmas.{demand_after-nil, demand_after-append}
use Rattle.krb_peers.proofs.VerdictLemmas.{AreVerdicts-after}
use Rattle.krb_peers.proofs.LoggedLemmas.{or_left}
use Rattle.krb_peers.proofs.AnswerLemmas.{delivered_texts}
use Rattle.krb_peers.specs.Attempt.{Attempt, IsAttempt, IsAttemptAfter}
use Rattle.krb_peers.specs.Texts.{texts_of_all}
use Rattle.krb_peers.specs.Session.{AreRecords}
use Rattle.krb_carry.specs.Store.{Stored, new_session, applied, Commits, Leads, IsAfter, HasFirst, IsReceipt}
use Rattle.krb_peers.proofs.FrameLemmas.{closed_whole}
use Rattle.krb_peers.proofs.AttemptLemmas.{accepted_together, accepted_within}

pub after_none : (sealer : SealerState) (records : List Record) → IsAfter sealer records 0 (new_session sealer)
after_none sealer records = record {
  effects = refl;
  demands = record { within = omega arith; is = sym (demand_after-nil (first_demand sealer.next)) };
}

pub same_stored : (a b : Stored) → a.demand ≡ b.demand → a.effects ≡ b.effects → a ≡ b
same_stored a b demand effects = ap₂ (λ (d : Demand) (texts : List (List ℕ)). let s : Stored = record { demand = d; effects = texts } in s) demand effects

module _ (sealer : SealerState) (records : List Record) (are : AreRecords records) where
  abbrev next : Demand
  next = first_demand sealer.next

  -- ---- an attempt that took effect

  pub attempt_after : (count : ℕ) (old : Stored) (attempt : Attempt) → IsAfter sealer records count old → IsAttempt sealer records attempt → old.demand ≡ attempt.receiver.demand → IsAttemptAfter sealer records count attempt
  attempt_after count old attempt after is began = record {
    are = are;
    tries = is;
    begins = record { within = (after.demands).within; is = sym began ∙ (after.demands).is };
  }

  pub after_more : (count : ℕ) (old : Stored) (attempt : Attempt) → IsAfter sealer records count old → IsAttempt sealer records attempt → old.demand ≡ attempt.receiver.demand
      → IsAfter sealer records (count + length (records_of attempt.verdicts)) (applied old attempt)
  after_more count old attempt after is began =
      let s = attempt_after count old attempt after is began in
      let together = accepted_together sealer records count attempt s in
      let rs = records_of attempt.verdicts in
      record {
        effects = ap₂ (λ xs ys. xs ++ ys) after.effects (delivered_texts attempt.verdicts)
            ∙ (sym (flat_map-append texts_of (take count records) rs) ∙ ap (λ l. flat_map texts_of l) together);
        demands = record {
          within = accepted_within sealer records count attempt s;
          is = ap (λ d. demand_after d rs) (s.begins).is
              ∙ (demand_after-append next (take count records) rs ∙ ap (λ l. demand_after next l) together);
        };
      }

  after_commit : (old : Stored) (attempt : Attempt) (new : Stored) → HasFirst sealer records old → IsAttempt sealer records attempt → Commits old attempt new → HasFirst sealer records new
  after_commit old attempt new has is (inl took) =
      let after = after_more (has.0) old attempt has.1 is took.0 in
      (has.0 + length (records_of attempt.verdicts), subst (λ s. IsAfter sealer records (has.0 + length (records_of attempt.verdicts)) s) (sym took.1) after)
  after_commit old attempt new has is (inr same) = (has.0, subst (λ s. IsAfter sealer records (has.0) s) (sym same) has.1)

  after_all : (old : Stored) (attempts : List Attempt) (new : Stored) → HasFirst sealer records old → All (IsAttempt sealer records) attempts → Leads old attempts new → HasFirst sealer records new
  after_all old [] new has each same = (has.0, subst (λ s. IsAfter sealer records (has.0) s) (sym same) has.1)
  after_all old (attempt ∷ attempts) new has each leads =
      let then = after_commit old attempt (leads.0) has (All-head (IsAttempt sealer records) attempt attempts each) leads.1 in
      after_all (leads.0) attempts new then (All-tail (IsAttempt sealer records) attempt attempts each) leads.2

  pub first_take_effect : (attempts : List Attempt) (stored : Stored) → All (IsAttempt sealer records) attempts → Leads (new_session sealer) attempts stored → HasFirst sealer records stored
  first_take_effect attempts stored each leads = after_all (new_session sealer) attempts stored (0, after_none sealer records) each leads

  -- ---- so what took effect is a prefix, and all where the close was accepted

  pub effects_prefix : (stored : Stored) → HasFirst sealer records stored → IsPrefix stored.effects (texts_of_all records)
  effects_prefix stored has = (
    flat_map texts_of (drop (has.0) records),
    ap (λ l. flat_map texts_of l) (sym (take-append-drop (has.0) records))
        ∙ (flat_map-append texts_of (take (has.0) records) (drop (has.0) records) ∙ ap (λ l. l ++ flat_map texts_of (drop (has.0) records)) (sym (has.1).effects)),
  )

  pub whole_where_closed : (stored : Stored) → HasFirst sealer records stored → stored.demand.closed ≡ true → stored.effects ≡ texts_of_all records
  whole_where_closed stored has closed =
      let there : list_any is_close (take (has.0) records) ≡ true = ap (λ (d : Demand). d.closed) (sym ((has.1).demands).is) ∙ closed in
      (has.1).effects ∙ ap (λ l. flat_map texts_of l) (closed_whole records are.close_last (has.0) there)

  -- ---- one history for each number

  pub number_is : (count : ℕ) (stored : Stored) → IsAfter sealer records count stored → stored.demand.expected ≡ sealer.next + count
  number_is count stored after =
      let number : stored.demand.expected ≡ sealer.next + length (take count records) = ap (λ (d : Demand). d.expected) (after.demands).is in
      omega (arith, number, length-take-le count records (after.demands).within)

  pub one_for_number : (a b : Stored) → HasFirst sealer records a → HasFirst sealer records b → a.demand.expected ≡ b.demand.expected → a ≡ b
  one_for_number a b has other same =
      let count : has.0 ≡ other.0 = omega (arith, same, number_is (has.0) a has.1, number_is (other.0) b other.1) in
      same_stored a b
      (((has.1).demands).is ∙ (ap (λ n. demand_after next (take n records)) count ∙ sym ((other.1).demands).is))
      ((has.1).effects ∙ (ap (λ n. flat_map texts_of (take n records)) count ∙ sym (other.1).effects))

-- ---- nothing after a close

none_accepted : (opener : OpenerState) (nows : List ℕ) (start : Demand) (place : ℕ) (took : List (List ℕ)) (vs : List Verdict) → AreVerdicts opener nows start place took vs → start.closed ≡ true → records_of vs ≡ []
none_accepted opener nows start place took [] are closed = refl
none_accepted opener nows start place [] (v ∷ vs) are closed = absurd (let e = are.one_each in omega arith)
none_accepted opener nows start place (frame ∷ took) (Ok d ∷ vs) are closed =
    absurd (let e : start.closed ≡ false = (AreVerdicts-after opener nows start place frame took (Ok d) vs are).0.0 in cc)
none_accepted opener nows start place (frame ∷ took) (Err refusal ∷ vs) are closed =
    let v : Verdict = Err refusal in
    none_accepted opener nows (demand_after start (accepted_by v)) (place + 1) took vs (AreVerdicts-after opener nows start place frame took v vs are).1
    (or_left start.closed (list_any is_close (accepted_by v)) closed)

module _ (sealer : SealerState) (records : List Record) where
  quiet_commit : (old : Stored) (attempt : Attempt) (new : Stored) → IsAttempt sealer records attempt → old.demand.closed ≡ true → Commits old attempt new → new ≡ old
  quiet_commit old attempt new is closed (inr same) = same
  quiet_commit old attempt new is closed (inl took) =
      let start = attempt.receiver.demand in
      let shut : start.closed ≡ true = ap (λ (demand : Demand). demand.closed) (sym took.0) ∙ closed in
      let none = none_accepted attempt.receiver.opener attempt.nows start 0 attempt.took attempt.verdicts is.judged shut in
      took.1
      ∙ same_stored (applied old attempt) old
      (ap (λ rs. demand_after start rs) none ∙ (demand_after-nil start ∙ sym took.0))
      (ap (λ texts. old.effects ++ texts) (delivered_texts attempt.verdicts ∙ ap (λ rs. flat_map texts_of rs) none) ∙ append-nil old.effects)

  pub quiet_after : (attempts : List Attempt) (old new : Stored) → All (IsAttempt sealer records) attempts → old.demand.closed ≡ true → Leads old attempts new → new ≡ old
  quiet_after [] old new each closed same = same
  quiet_after (attempt ∷ attempts) old new each closed leads =
      let stays = quiet_commit old attempt (leads.0) (All-head (IsAttempt sealer records) attempt attempts each) closed leads.1 in
      let still : (leads.0).demand.closed ≡ true = ap (λ (s : Stored). s.demand.closed) stays ∙ closed in
      quiet_after attempts (leads.0) new (All-tail (IsAttempt sealer records) attempt attempts each) still leads.2 ∙ stays

-- ---- receipts

receipt_commit : (old : Stored) (attempt : Attempt) (new : Stored) (number : ℕ) → Commits old attempt new → IsReceipt old number → IsReceipt new number
receipt_commit old attempt new number (inl took) receipt =
    let before : old.demand.expected ≡ attempt.receiver.demand.expected = ap (λ (d : Demand). d.expected) took.0 in
    let now : new.demand.expected ≡ attempt.receiver.demand.expected + length (records_of attempt.verdicts) = ap (λ (s : Stored). s.demand.expected) took.1 in
    omega (arith, before, now, receipt)
receipt_commit old attempt new number (inr same) receipt = subst (λ s. IsReceipt s number) (sym same) receipt

pub receipt_stays : (attempts : List Attempt) (old new : Stored) (number : ℕ) → Leads old attempts new → IsReceipt old number → IsReceipt new number
receipt_stays [] old new number same receipt = subst (λ s. IsReceipt s number) (sym same) receipt
receipt_stays (attempt ∷ attempts) old new number leads receipt =
    receipt_stays attempts (leads.0) new number leads.2 (receipt_commit old attempt (leads.0) number leads.1 receipt)

-- ---- what compare-and-set is for

pub blind_repeats : (sealer : SealerState) (records : List Record) (attempt : Attempt) → delivered attempt.verdicts ≡ texts_of_all records → texts_of_all records ≢ []
    → IsPrefix (applied (applied (new_session sealer) attempt) attempt).effects (texts_of_all records) → ⊥
blind_repeats sealer records attempt whole some prefix =
    let texts = delivered attempt.verdicts in
    let long = ap length prefix.1 in
    let none : length (texts_of_all records) ≡ 0 =
    omega (arith, long, length-append (texts ++ texts) prefix.0, length-append texts texts, ap length whole) in
    some (nil_from_length (texts_of_all records) none)
