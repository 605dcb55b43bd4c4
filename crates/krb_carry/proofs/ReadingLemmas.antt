-- Receivers that read a shard accept each frame that counts as carried, up to the stored offset.
use Rattle.std.proofs.Common.{◌≡◌, ℕ, zero, suc, ◌+◌, ◌-◌, ◌<◌, ◌≤◌, ◌⊎◌, List, [], ◌∷◌, ◌++◌, length, map, take, drop, slice_get, Some, refl, sym, ap, subst, ◌∙◌, arith, inl, inr, append-nil}
use Rattle.std.specs.Prelude.{All}
use Rattle.std.specs.List.{flat_map}
use Rattle.std.proofs.lemmas.Bool.{cases_lt}
use Rattle.std.proofs.lemmas.List.{take_all}
use Rattle.std.proofs.lemmas.List.Elements.{All-head, All-tail, All-map, All-cons, All-nil}
use Rattle.krb_record.specs.declared.record.Record.{Record}
use Rattle.krb_record.specs.Record.{texts_of}
use Rattle.krb_seal.specs.Sealer.{SealerState}
use Rattle.krb_peers.specs.Attempt.{Attempt, IsAttempt, IsAttemptAfter, DemandsAfter}
use Rattle.krb_peers.specs.Texts.{texts_of_all}
use Rattle.krb_peers.specs.Order.{demand_after}
use Rattle.krb_peers.specs.Session.{AreRecords, FitLimits}
use Rattle.krb_peers.specs.Verdicts.{accepted_by, records_of}
use Rattle.krb_peers.proofs.AnswerLemmas.{delivered_texts}
use Rattle.krb_peers.proofs.AttemptLemmas.{past_it}
use Rattle.krb_peers.proofs.FrameLemmas.{fewer, none_more}
use Rattle.krb_peers.proofs.OrderLemmas.{demand_after-nil}
use Rattle.krb_carry.specs.ProgressState.{ProgressState}
use Rattle.krb_carry.specs.Shard.{Item}
use Rattle.krb_carry.specs.Progress.{IsCounted, StandInTurn}
use Rattle.krb_carry.specs.Store.{Stored, new_session, applied, Commits, Leads, IsAfter, HasFirst, IsReceipt}
use Rattle.krb_carry.specs.Reading.{StoredShard, new_shard, Reading, IsReading, CommitsReading, LeadsReading, WasRead, CommitsLess, LeadsLess}
use Rattle.krb_carry.proofs.ShardLemmas.{item_of, count_before, frame_there, count_rises, slice_get-part}
use Rattle.krb_carry.proofs.StoreLemmas.{same_stored, after_more, attempt_after, number_is}

module _ (sealer : SealerState) (records : List Record) (are : AreRecords records) (fits : FitLimits records) (session : ℕ) (shard : List Item) (done : ℕ) (p : ProgressState) (turn : StandInTurn sealer records session shard done p) where
  -- all below `done` was accepted, and each frame that counts as carried at a place before the offset
  pub record HasRead (stored : StoredShard) : Type 0 where
    pub count : ℕ
    pub after : IsAfter sealer records count stored.session
    pub known : done ≤ sealer.next + count
    pub past : (k : ℕ) → IsCounted sealer done p k → turn.place k < stored.offset → k < count

  pub read_none : (then : Stored) → HasFirst sealer records then → IsReceipt then done → HasRead (record { offset = 0; session = then })
  read_none then has receipt = record {
    count = has.0;
    after = has.1;
    known = omega (arith, receipt, number_is sealer records are (has.0) then has.1);
    past = λ k counted before. absurd (omega (arith, before));
  }

  -- ---- a reading that took effect

  module _ (old : StoredShard) (reading : Reading) (read : HasRead old) (is : IsReading sealer records session shard reading) (at : old.offset ≡ reading.from) (began : old.session.demand ≡ reading.attempt.receiver.demand) where
    abbrev attempt : Attempt
    attempt = reading.attempt

    abbrev part : List Item
    part = take reading.count (drop reading.from shard)

    abbrev so_far : ℕ → ℕ
    so_far i = length (records_of (take i attempt.verdicts))

    its_attempt : IsAttemptAfter sealer records read.count attempt
    its_attempt = attempt_after sealer records are read.count old.session attempt read.after is.attempt began

    -- the frame is one of those that the receiver takes
    abbrev IsInside : ℕ → Type 0
    IsInside k = IsCounted sealer done p k × (reading.from ≤ turn.place k) × (turn.place k < reading.from + reading.count)

    -- where it is among them
    abbrev place_of : ℕ → ℕ
    place_of k = count_before session (turn.place k - reading.from) part

    in_part : (k : ℕ) (inside : IsInside k) → slice_get part (turn.place k - reading.from) ≡ Some (item_of session (turn.stands k inside.0).it.frame)
    in_part k inside = slice_get-part shard reading.from reading.count (turn.place k) (item_of session (turn.stands k inside.0).it.frame) inside.1 inside.2 (turn.stands k inside.0).there

    past_here : (k : ℕ) → IsInside k → k ≤ read.count + so_far (place_of k) → k < read.count + so_far (suc (place_of k))
    past_here k inside reached =
        let stands = turn.stands k inside.0 in
        let taken : slice_get attempt.took (place_of k) ≡ Some stands.it.frame =
        ap (λ frames. slice_get frames (place_of k)) is.takes ∙ frame_there session part (turn.place k - reading.from) stands.it.frame (in_part k inside) in
        past_it sealer records read.count attempt its_attempt k (place_of k) stands.it stands.sealed (fits k (stands.it).carried (stands.sealed).there) taken (is.agree k (place_of k) stands.it stands.sealed taken) reached

    past_each : (k : ℕ) → IsInside k → k < read.count + so_far (suc (place_of k))
    past_each zero inside = past_here zero inside (omega arith)
    past_each (suc k) inside =
        past_here (suc k) inside (
        elim (cases_lt (sealer.next + k) done) [
          | inl below ↦ omega (arith, below, read.known)
          | inr reached ↦
              let counted : IsCounted sealer done p k = (reached, omega (arith, inside.0.1)) in
              let rises = turn.rises k counted inside.0 in
              elim (cases_lt (turn.place k) reading.from) [
                | inl earlier ↦
                    let accepted = read.past k counted (omega (arith, earlier, at)) in
                    omega (arith, accepted)
                | inr from ↦
                    let before : IsInside k = (counted, from, omega (arith, rises, inside.2)) in
                    let accepted = past_each k before in
                    let later = count_rises session part (turn.place k - reading.from) (turn.place (suc k) - reading.from) (turn.stands k counted).it.frame (omega (arith, from, rises)) (in_part k before) in
                    omega (arith, accepted, fewer accepted_by attempt.verdicts (suc (place_of k)) (place_of (suc k)) (omega (arith, later)))
              ]
        ])

    read_more : HasRead (record { offset = reading.from + reading.count; session = applied old.session attempt })
    read_more = record {
      count = read.count + length (records_of attempt.verdicts);
      after = after_more sealer records are read.count old.session attempt read.after is.attempt began;
      known = omega (arith, read.known);
      past = λ k counted below.
          elim (cases_lt (turn.place k) reading.from) [
            | inl earlier ↦
                let accepted = read.past k counted (omega (arith, earlier, at)) in
                omega (arith, accepted)
            | inr from ↦
                let accepted = past_each k (counted, from, below) in
                omega (arith, accepted, none_more accepted_by attempt.verdicts (suc (place_of k)))
          ];
    }

  read_commit : (old : StoredShard) (reading : Reading) (new : StoredShard) → HasRead old → IsReading sealer records session shard reading → CommitsReading old reading new → HasRead new
  read_commit old reading new read is (inl took) = subst HasRead (sym took.2) (read_more old reading read is took.0 took.1)
  read_commit old reading new read is (inr same) = subst HasRead (sym same) read

  pub read_all : (old : StoredShard) (readings : List Reading) (new : StoredShard) → HasRead old → All (IsReading sealer records session shard) readings → LeadsReading old readings new → HasRead new
  read_all old [] new read each same = subst HasRead (sym same) read
  read_all old (reading ∷ readings) new read each leads =
      let then = read_commit old reading (leads.0) read (All-head (IsReading sealer records session shard) reading readings each) leads.1 in
      read_all (leads.0) readings new then (All-tail (IsReading sealer records session shard) reading readings each) leads.2

  pub has_past : (stored : StoredShard) → HasRead stored → p.at ≤ stored.offset → p.carried ≤ stored.session.demand.expected
  has_past stored read at =
      let number = number_is sealer records are read.count stored.session read.after in
      elim (cases_lt (sealer.next + read.count) p.carried) [
        | inl missing ↦
            let counted : IsCounted sealer done p read.count = (read.known, missing) in
            let place = turn.within read.count counted in
            let accepted = read.past read.count counted (omega (arith, place, at)) in
            absurd (omega (arith, accepted))
        | inr reached ↦ omega (arith, reached, number)
      ]

  pub all_accepted : (stored : StoredShard) → HasRead stored → p.at ≤ stored.offset → p.carried ≡ sealer.next + length records → IsAfter sealer records (length records) stored.session
  all_accepted stored read at whole =
      let past = has_past stored read at in
      let number = number_is sealer records are read.count stored.session read.after in
      let every : read.count ≡ length records = let few = ((read.after).demands).within in omega (arith, past, whole, number, few) in
      subst (λ n. IsAfter sealer records n stored.session) every read.after

pub after_whole : (sealer : SealerState) (records : List Record) (stored : Stored) → IsAfter sealer records (length records) stored
    → (stored.effects ≡ texts_of_all records) × DemandsAfter sealer records (length records) stored.demand
after_whole sealer records stored after =
    (after.effects ∙ ap (λ l. flat_map texts_of l) (take_all (length records) records (omega arith)), after.demands)

-- ---- a history of readings is one of attempts

attempts_lead : (old : StoredShard) (readings : List Reading) (new : StoredShard) → LeadsReading old readings new → Leads old.session (map (λ (reading : Reading). reading.attempt) readings) new.session
attempts_lead old [] new same = ap (λ (s : StoredShard). s.session) same
attempts_lead old (reading ∷ readings) new leads =
    ((leads.0).session, one old reading (leads.0) leads.1, attempts_lead (leads.0) readings new leads.2)
  where
    one : (old : StoredShard) (reading : Reading) (between : StoredShard) → CommitsReading old reading between → Commits old.session reading.attempt between.session
    one old reading between (inl took) = inl (took.1, ap (λ (s : StoredShard). s.session) took.2)
    one old reading between (inr same) = inr (ap (λ (s : StoredShard). s.session) same)

pub readings_attempts : (sealer : SealerState) (records : List Record) (session : ℕ) (shard : List Item) (readings : List Reading) (stored : StoredShard) → All (IsReading sealer records session shard) readings → LeadsReading (new_shard sealer) readings stored
    → All (IsAttempt sealer records) (map (λ (reading : Reading). reading.attempt) readings) × Leads (new_session sealer) (map (λ (reading : Reading). reading.attempt) readings) stored.session
readings_attempts sealer records session shard readings stored each leads = (
  All-map (IsAttempt sealer records) (λ (reading : Reading). reading.attempt) readings (λ k d lt. (each k d lt).attempt),
  attempts_lead (new_shard sealer) readings stored leads,
)

-- ---- comparing less

-- what was stored before is what is stored, or has an earlier offset
abbrev IsEarlier : StoredShard → StoredShard → Type 0
IsEarlier old then = (then ≡ old) ⊎ (then.offset < old.offset)

-- so what was stored with this offset or a later one is what is stored
same_then : (seen : List StoredShard) (old : StoredShard) (reading : Reading) → All (IsEarlier old) (old ∷ seen) → WasRead (old ∷ seen) reading → old.offset ≡ reading.from → old.session.demand ≡ reading.attempt.receiver.demand
same_then seen old reading earlier read at =
    let place = read.stored in
    let then_earlier : IsEarlier old read.then = subst (IsEarlier old) place.2 (earlier (place.0) read.then place.1) in
    elim then_earlier [
      | inl same ↦ ap (λ (s : StoredShard). s.session.demand) (sym same) ∙ read.demand
      | inr before ↦ absurd (omega (arith, before, read.not_before, at))
    ]

nothing_applied : (old : Stored) (attempt : Attempt) → old.demand ≡ attempt.receiver.demand → records_of attempt.verdicts ≡ [] → old ≡ applied old attempt
nothing_applied old attempt began none =
    same_stored old (applied old attempt)
    (began ∙ sym (ap (λ rs. demand_after attempt.receiver.demand rs) none ∙ demand_after-nil attempt.receiver.demand))
    (sym (ap (λ texts. old.effects ++ texts) (delivered_texts attempt.verdicts ∙ ap (λ rs. flat_map texts_of rs) none) ∙ append-nil old.effects))

less_commits : (seen : List StoredShard) (old : StoredShard) (reading : Reading) (between : StoredShard) → All (IsEarlier old) (old ∷ seen) → WasRead (old ∷ seen) reading → CommitsLess old reading between → CommitsReading old reading between
less_commits seen old reading between earlier read (inr same) = inr same
less_commits seen old reading between earlier read (inl took) =
    let began = same_then seen old reading earlier read took.0 in
    inl (
      took.0,
      began,
      elim took.2 [
        | inl quiet ↦
            quiet.1 ∙ ap (λ (session : Stored). let s : StoredShard = record { offset = reading.from + reading.count; session = session } in s) (nothing_applied old.session reading.attempt began quiet.0)
        | inr moved ↦ moved.1
      ],
    )

still_earlier : (seen : List StoredShard) (old : StoredShard) (reading : Reading) (between : StoredShard) → All (IsEarlier old) (old ∷ seen) → CommitsLess old reading between → All (IsEarlier between) (between ∷ old ∷ seen)
still_earlier seen old reading between earlier (inr same) =
    All-cons (IsEarlier between) between (old ∷ seen) (inl refl) (subst (λ s. All (IsEarlier s) (old ∷ seen)) (sym same) earlier)
still_earlier seen old reading between earlier (inl took) =
    let offset : between.offset ≡ reading.from + reading.count = elim took.2 [
      | inl quiet ↦ ap (λ (s : StoredShard). s.offset) quiet.1
      | inr moved ↦ ap (λ (s : StoredShard). s.offset) moved.1
    ] in
    All-cons (IsEarlier between) between (old ∷ seen) (inl refl) (λ k d lt. elim (earlier k d lt) [
      | inl same ↦ inr (omega (arith, offset, took.0, took.1, ap (λ (s : StoredShard). s.offset) same))
      | inr before ↦ inr (omega (arith, offset, took.0, took.1, before))
    ])

less_leads : (seen : List StoredShard) (old : StoredShard) (readings : List Reading) (new : StoredShard) → All (IsEarlier old) (old ∷ seen) → LeadsLess seen old readings new → LeadsReading old readings new
less_leads seen old [] new earlier same = same
less_leads seen old (reading ∷ readings) new earlier leads =
    let between = leads.0 in
    (between, less_commits seen old reading between earlier leads.1 leads.2, less_leads (old ∷ seen) between readings new (still_earlier seen old reading between earlier leads.2) leads.3)

pub less_from : (start : StoredShard) (readings : List Reading) (stored : StoredShard) → LeadsLess [] start readings stored → LeadsReading start readings stored
less_from start readings stored leads =
    less_leads [] start readings stored (All-cons (IsEarlier start) start [] (inl refl) (All-nil (IsEarlier start))) leads

pub less_is_enough : (sealer : SealerState) (readings : List Reading) (stored : StoredShard) → LeadsLess [] (new_shard sealer) readings stored → LeadsReading (new_shard sealer) readings stored
less_is_enough sealer readings stored leads =
    less_from (new_shard sealer) readings stored leads
