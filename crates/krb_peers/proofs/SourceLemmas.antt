-- The records of a sender are those of a session, and what is taken of its wire is an attempt.
use Rattle.std.proofs.Common.{◌≡◌, ◌⊎◌, ℕ, zero, suc, ◌+◌, ◌≤◌, if◌then◌else◌, Bool, true, false, List, [], ◌∷◌, ◌++◌, length, take, drop, get_or, slice_get, Option, Some, None, Ok, refl, sym, ap, ap₂, subst, ◌∙◌, arith, append_assoc, inl, inr}
use Rattle.std.specs.Prelude.{All}
use Rattle.std.specs.List.{flat_map}
use Rattle.std.proofs.lemmas.Bool.{cases_lt, ltb-true}
use Rattle.std.proofs.lemmas.List.{take_all, take-append-drop}
use Rattle.std.proofs.lemmas.List.Elements.{All-head, All-tail}
use Rattle.std.proofs.lemmas.Option.{slice_get-get_or, slice_get_within}
use Rattle.krb_base.specs.Limits.{batch_size_limit}
use Rattle.krb_base.specs.Prefix.{IsPrefix}
use Rattle.krb_record.specs.Batch.{texts_size, text_bytes}
use Rattle.krb_record.specs.declared.record.Record.{Record}
use Rattle.krb_record.specs.declared.record.Record.TheVariants as records
use Rattle.krb_record.specs.Record.{FitsLimits, SpellsRecord, bytes_of, texts_of, is_close, record_for}
use Rattle.krb_record.proofs.BatchLemmas.{length-texts, one_reading}
use Rattle.krb_record.proofs.GroupLemmas.{small_groups}
use Rattle.krb_record.proofs.RecordLemmas.{same_first}
use Rattle.krb_seal.specs.Sealer.{SealerState}
use Rattle.krb_peers.specs.declared.delivery.Delivery.{Delivery}
use Rattle.krb_record.specs.declared.plan.Emit.{Emit}
use Rattle.krb_record.specs.declared.plan.Emit.TheVariants.{Frame, Flip, Raw}
use Rattle.krb_peers.specs.Attempt.{HasKey, DemandsAfter, IsAttemptAfter}
use Rattle.krb_peers.specs.Demand.{Demand}
use Rattle.krb_peers.specs.Draws.{confounder_at}
use Rattle.krb_peers.specs.Order.{first_demand}
use Rattle.krb_peers.specs.Plan.{is_good, is_good_emission, emission, emissions, wire}
use Rattle.krb_peers.specs.Planned.{is_altered_one, altered_at, AlteredAreHonest, IsPaired, AlteredAreHonestAfter, attempt_of}
use Rattle.krb_peers.specs.Ends.{Ends}
use Rattle.krb_peers.specs.Run.{Run, IsRun}
use Rattle.krb_peers.specs.Session.{AreRecords, FitLimits, Sealed, IsSealed, IsFrameOf}
use Rattle.krb_peers.proofs.Parts.{CloseIsLastOf}
use Rattle.krb_peers.specs.Sender.{Source, IsWithinLimits, text_groups, texts_of_groups, sealed_count, sealed_groups, records_for, IsFrame, AreFrames}
use Rattle.krb_peers.specs.Moments.{moment_at}
use Rattle.krb_peers.specs.Sender as sender
use Rattle.krb_peers.specs.Verdicts.{record_of, records_of}
use Rattle.krb_peers.proofs.AnswerLemmas.{image}
use Rattle.krb_peers.proofs.AttemptLemmas.{number_after, accepted_prefix}
use Rattle.krb_peers.proofs.FrameLemmas.{none_of_front}
use Rattle.krb_peers.proofs.ListLemmas.{slice_get-take, all_pass, length-take, get_or-take}
use Rattle.krb_peers.proofs.OrderLemmas.{demand_after-nil}
use Rattle.krb_peers.proofs.SendingLemmas.{record_there, close_there, groups_fit, groups_of_source}

-- ---- where a frame of the wire comes from: the sender's frames, or it is altered

pub data Origin (frames : List (List ℕ)) (plan : Option (List Emit)) (place : ℕ) (frame : List ℕ) : Type 0 where
  own : (k : ℕ) → slice_get frames k ≡ Some frame → Origin frames plan place frame
  altered : altered_at plan place ≡ true → Origin frames plan place frame

origin_of : (frames : List (List ℕ)) (plan : List Emit) (place : ℕ) (frame : List ℕ) (e : Emit) → slice_get plan place ≡ Some e → frame ≡ emission frames e
    → is_good_emission frames e ≡ true → Origin frames (Some plan) place frame
origin_of frames plan place frame (Frame k) at is good =
    own k (slice_get-get_or frames k [] (ltb-true k (length frames) good) ∙ ap (λ f. Some f) (sym is))
origin_of frames plan place frame (Flip k byte mask) at is good = altered (ap is_altered_one at)
origin_of frames plan place frame (Raw bytes) at is good = altered (ap is_altered_one at)

origin_by : (frames : List (List ℕ)) (plan : List Emit) (place : ℕ) (frame : List ℕ) (good : Bool) → is_good frames plan ≡ good
    → slice_get (if good then emissions frames plan else []) place ≡ Some frame → Origin frames (Some plan) place frame
origin_by frames plan place frame true is h =
    let w = image (emission frames) plan place frame h in
    origin_of frames plan place frame w.source w.at w.is (all_pass (is_good_emission frames) plan place w.source is w.at)
origin_by frames plan place frame false is h = absurd (let e = h in cc)

pub origin : (frames : List (List ℕ)) (plan : Option (List Emit)) (place : ℕ) (frame : List ℕ) → slice_get (wire frames plan) place ≡ Some frame → Origin frames plan place frame
origin frames None place frame h = own place h
origin frames (Some plan) place frame h = origin_by frames plan place frame (is_good frames plan) refl h

-- ---- each record of a sender can be read in one way only

-- the texts of a batch are no larger than a batch may be
abbrev pub IsSmall : Record → Type 0
IsSmall (records.Text text) = Unit {0}
IsSmall (records.Batch texts) = texts_size texts ≤ batch_size_limit
IsSmall records.Close = Unit {0}

pub read_record : (r s : Record) (user : List ℕ) → IsSmall r → bytes_of r ≡ user → SpellsRecord s user → r ≡ s
read_record (records.Text t) (records.Text u) user small e spelled = (let f = e ∙ spelled.1 in let same : t ≡ u = cc in ap records.Text same)
read_record (records.Text t) (records.Batch us) user small e spelled = absurd (omega (arith, same_first 0x44 0x42 t _ (e ∙ spelled.1)))
read_record (records.Text t) records.Close user small e spelled = absurd (omega (arith, same_first 0x44 0x43 t [] (e ∙ spelled.1)))
read_record (records.Batch ts) (records.Text u) user small e spelled = absurd (omega (arith, same_first 0x42 0x44 _ u (e ∙ spelled.1)))
read_record (records.Batch ts) (records.Batch us) user small e spelled =
    let tails : flat_map text_bytes us ≡ flat_map text_bytes ts = sym (ap (λ l. drop 1 l) (e ∙ spelled.1)) in
    let short : length (flat_map text_bytes us) ≤ batch_size_limit = let few = spelled.0.small in omega (arith, few, length-texts us) in
    ap records.Batch (one_reading (flat_map text_bytes us) us ts short refl tails)
read_record (records.Batch ts) records.Close user small e spelled = absurd (omega (arith, same_first 0x42 0x43 _ [] (e ∙ spelled.1)))
read_record records.Close (records.Text u) user small e spelled = absurd (omega (arith, same_first 0x43 0x44 [] u (e ∙ spelled.1)))
read_record records.Close (records.Batch us) user small e spelled = absurd (omega (arith, same_first 0x43 0x42 [] _ (e ∙ spelled.1)))
read_record records.Close records.Close user small e spelled = refl

-- so it is of each record of a sender
small_for : (group : List (List ℕ)) → (2 ≤ length group → texts_size group ≤ batch_size_limit) → IsSmall (record_for group)
small_for [] small = omega arith
small_for (t ∷ []) small = tt
small_for (t ∷ u ∷ ts) small = small (omega arith)

pub small_record : (source : Source) (count k : ℕ) (r : Record) → slice_get (take count (sender.records source)) k ≡ Some r → IsSmall r
small_record source count k r at =
    let all = text_groups source in
    let m = sealed_count source.sealer.next (length all) in
    let here : slice_get (records_for (take m all)) k ≡ Some r = slice_get-take count k (sender.records source) r at in
    elim (cases_lt k (length (take m all))) [
      | inl below ↦
          let n = length-take m all in
          let is : r ≡ record_for (get_or all k []) = record_there (take m all) k r below here ∙ ap record_for (get_or-take m k all [] (omega (arith, below, n))) in
          let group = small_groups source.batch source.texts all (groups_of_source source) k [] (omega (arith, below, n)) in
          subst IsSmall (sym is) (small_for (get_or all k []) (λ several. (group.1 several).1))
      | inr past ↦ subst IsSmall (sym (close_there (take m all) k r past here)) tt
    ]

-- ---- the texts of a sender's records

-- the record of a group carries its texts, and isn't the close
texts_of_record : (group : List (List ℕ)) → texts_of (record_for group) ≡ group
texts_of_record [] = refl
texts_of_record (t ∷ []) = refl
texts_of_record (t ∷ u ∷ ts) = refl

pub not_close : (group : List (List ℕ)) → is_close (record_for group) ≡ false
not_close [] = refl
not_close (t ∷ []) = refl
not_close (t ∷ u ∷ ts) = refl

pub texts_of_records : (groups : List (List (List ℕ))) → flat_map texts_of (records_for groups) ≡ texts_of_groups groups
texts_of_records [] = refl
texts_of_records (g ∷ groups) = ap₂ (λ xs ys. xs ++ ys) (texts_of_record g) (texts_of_records groups)

pub fits_at : (n : ℕ) (groups : List (List (List ℕ))) (i : ℕ) (r : Record) → All (λ group. FitsLimits (record_for group)) groups → slice_get (records_for (take n groups)) i ≡ Some r → FitsLimits r
fits_at zero groups zero r fit at = subst FitsLimits (let e : records.Close ≡ r = (let f = at in cc) in e) tt
fits_at zero groups (suc i) r fit at = absurd (let f = at in cc)
fits_at (suc n) [] zero r fit at = subst FitsLimits (let e : records.Close ≡ r = (let f = at in cc) in e) tt
fits_at (suc n) [] (suc i) r fit at = absurd (let f = at in cc)
fits_at (suc n) (g ∷ groups) zero r fit at =
    subst FitsLimits (let e : record_for g ≡ r = (let f = at in cc) in e) (All-head (λ group. FitsLimits (record_for group)) g groups fit)
fits_at (suc n) (g ∷ groups) (suc i) r fit at = fits_at n groups i r (All-tail (λ group. FitsLimits (record_for group)) g groups fit) at

-- ---- its records are those of a session

-- the close of a sender is last
pub close_is_last : (groups : List (List (List ℕ))) (front back : List Record) → records_for groups ≡ front ++ records.Close ∷ back → back ≡ []
close_is_last [] [] back is = let e : records.Close ∷ [] ≡ records.Close ∷ back = is in cc
close_is_last [] (f ∷ []) back is =
    let e : records.Close ∷ [] ≡ f ∷ (records.Close ∷ back) = is in
    absurd (let g = e in cc)
close_is_last [] (f ∷ g ∷ front) back is =
    let e : records.Close ∷ [] ≡ f ∷ (g ∷ (front ++ records.Close ∷ back)) = is in
    absurd (let h = e in cc)
close_is_last (group ∷ groups) [] back is =
    let e : record_for group ∷ records_for groups ≡ records.Close ∷ back = is in
    let head : record_for group ≡ records.Close = cc in
    absurd (let h : false ≡ true = sym (not_close group) ∙ ap is_close head in cc)
close_is_last (group ∷ groups) (f ∷ front) back is =
    let e : record_for group ∷ records_for groups ≡ f ∷ (front ++ records.Close ∷ back) = is in
    let tail : records_for groups ≡ front ++ records.Close ∷ back = cc in
    close_is_last groups front back tail

-- nor does a record follow it among the first ones
first_close : (rs : List Record) (count : ℕ) → CloseIsLastOf rs → CloseIsLastOf (take count rs)
first_close rs count last front back is =
    none_of_front back (drop count rs) (last front (back ++ drop count rs) (
    sym (take-append-drop count rs) ∙ (ap (λ l. l ++ drop count rs) is ∙ append_assoc front (records.Close ∷ back) (drop count rs))))

pub some_records : (source : Source) (count : ℕ) → AreRecords (take count (sender.records source))
some_records source count = record {
  readable = λ k r at other spelled. read_record r other (bytes_of r) (small_record source count k r at) refl spelled;
  close_last = first_close (sender.records source) count (close_is_last (sealed_groups source));
}

pub are_records : (source : Source) → AreRecords (sender.records source)
are_records source =
    let all = sender.records source in
    subst AreRecords (take_all (length all) all (omega arith)) (some_records source (length all))

pub fit_limits : (source : Source) → IsWithinLimits source → FitLimits (sender.records source)
fit_limits source fits k r at =
    let fitting = groups_fit source.batch source.texts (text_groups source) (groups_of_source source) fits.batch fits.texts in
    fits_at (sealed_count source.sealer.next (length (text_groups source))) (text_groups source) k r fitting at

-- a frame of a sender is sealed of its record
abbrev pub sealed_of : Source → ℕ → Record → List ℕ → Sealed
sealed_of source k r frame = record { carried = r; at = moment_at source.ats k; frame = frame }

pub its_frame : (source : Source) (all : List Record) (k : ℕ) (r : Record) (frame : List ℕ) → slice_get all k ≡ Some r → IsFrame source k r frame → IsSealed source.sealer all k (sealed_of source k r frame)
its_frame source all k r frame there is = record { there = there; seals = record { confounder = confounder_at source.draws k; seals = is } }

pub one_of : (source : Source) (all : List Record) (frames : List (List ℕ)) → AreFrames source all frames → (k : ℕ) (frame : List ℕ) → slice_get frames k ≡ Some frame
    → IsSealed source.sealer all k (sealed_of source k (get_or all k records.Close) frame)
one_of source all frames are k frame at =
    let r = get_or all k records.Close in
    let there : slice_get all k ≡ Some r = slice_get-get_or all k records.Close (omega (arith, slice_get_within frames k frame at, are.one_each)) in
    its_frame source all k r frame there (are.each k r frame there at)

-- among more records too
pub among : (sealer : SealerState) (some all : List Record) (k : ℕ) (it : Sealed) → ((r : Record) → slice_get some k ≡ Some r → slice_get all k ≡ Some r) → IsSealed sealer some k it → IsSealed sealer all k it
among sealer some all k it inside sealed = record { there = inside it.carried sealed.there; seals = sealed.seals }

-- ---- what was taken of a wire

first_is : (demand : Demand) (next : ℕ) → demand.expected ≡ next → demand.closed ≡ false → demand ≡ first_demand next
first_is demand next expected closed = ap₂ (λ (x : ℕ) (y : Bool). let z : Demand = record { expected = x; closed = y } in z) expected closed

pub paired_begins : (ends : Ends) (all : List Record) → IsPaired ends → DemandsAfter ends.source.sealer all 0 ends.receiver.demand
paired_begins ends all paired = record {
  within = omega arith;
  is = first_is ends.receiver.demand ends.source.sealer.next paired.expected paired.closed ∙ sym (demand_after-nil (first_demand ends.source.sealer.next));
}

module _ (run : Run) (is : IsRun run) where
  abbrev source : Source
  source = run.ends.source

  abbrev all : List Record
  all = sender.records source

  pub on_wire : (i : ℕ) (frame : List ℕ) → slice_get run.took i ≡ Some frame → slice_get (wire is.frames source.plan) i ≡ Some frame
  on_wire i frame at = slice_get-take is.n i (wire is.frames source.plan) frame (ap (λ fs. slice_get fs i) (sym is.taken) ∙ at)

  -- what is accepted of an altered frame is the record of its number, of these
  abbrev AlteredCarry : ℕ → List Record → Type 0
  AlteredCarry first rs =
      (place : ℕ) (frame : List ℕ) (d : Delivery) → altered_at source.plan place ≡ true → slice_get run.took place ≡ Some frame → slice_get run.verdicts place ≡ Some (Ok d)
      → IsFrameOf source.sealer rs frame ⊎ (slice_get rs (first + length (records_of (take place run.verdicts))) ≡ Some (record_of d))

  attempt_in : (first : ℕ) (rs : List Record) → AreRecords rs → ((k : ℕ) (r : Record) → slice_get (take is.count all) k ≡ Some r → slice_get rs k ≡ Some r)
      → HasKey source.sealer run.ends.receiver → DemandsAfter source.sealer rs first run.ends.receiver.demand → AlteredCarry first rs
      → IsAttemptAfter source.sealer rs first (attempt_of run)
  attempt_in first rs are inside has_key begins honest = record {
    are = are;
    tries = record {
      has_key = has_key;
      judged = is.judged;
      no_forgery = λ place frame d at-f at-v.
          elim (origin is.frames source.plan place frame (on_wire place frame at-f)) [
            | own k at-k ↦
                let it = sealed_of source k (get_or (take is.count all) k records.Close) frame in
                inl (record { k = k; it = it; sealed = among source.sealer (take is.count all) rs k it (inside k) (one_of source (take is.count all) is.frames is.sealed k frame at-k); is = refl })
            | altered changed ↦
                elim (honest place frame d changed at-f at-v) [
                  | inl mine ↦ inl mine
                  | inr right ↦ inr (λ k number.
                      let accepted = records_of (take place run.verdicts) in
                      let its = number_after source.sealer rs first run.ends.receiver.demand begins accepted in
                      let same : first + length accepted ≡ k = omega (arith, number, its) in
                      ap (λ n. slice_get rs n) (sym same) ∙ right)
                ]
          ];
    };
    begins = begins;
  }

  -- of all records that the sender is to seal
  pub run_attempt : (first : ℕ) → HasKey source.sealer run.ends.receiver → DemandsAfter source.sealer all first run.ends.receiver.demand → AlteredAreHonestAfter first run
      → IsAttemptAfter source.sealer all first (attempt_of run)
  run_attempt first has_key begins honest =
      attempt_in first all (are_records source) (λ k r at. slice_get-take is.count k all r at) has_key begins
      (λ place frame d changed at-f at-v. elim (honest place frame d changed at-f at-v) [
        | inl mine ↦ inl (record {
          k = mine.k;
          it = sealed_of source mine.k mine.carried frame;
          sealed = its_frame source all mine.k mine.carried frame mine.there mine.is;
          is = refl;
        })
        | inr right ↦ inr right
      ])

  pub paired_key : IsPaired run.ends → HasKey source.sealer run.ends.receiver
  paired_key paired = record { etype = paired.etype; key = paired.key }

  pub paired_attempt : IsPaired run.ends → AlteredAreHonest run → IsAttemptAfter source.sealer all 0 (attempt_of run)
  paired_attempt paired honest =
      run_attempt 0 (paired_key paired) (paired_begins run.ends all paired) (λ place frame d changed at-f at.
      let n : 0 + length (records_of (take place run.verdicts)) ≡ length (records_of (take place run.verdicts)) = omega arith in
      rw n (honest place frame d changed at-f at))

  pub records_prefix : IsPaired run.ends → AlteredAreHonest run → IsPrefix (records_of run.verdicts) all
  records_prefix paired honest = accepted_prefix source.sealer all 0 (attempt_of run) (paired_attempt paired honest)

  -- and without a plan, of those that were sealed until then
  pub sealed_prefix : IsPaired run.ends → source.plan ≡ None → IsPrefix (records_of run.verdicts) (take is.count all)
  sealed_prefix paired none =
      let some = take is.count all in
      accepted_prefix source.sealer some 0 (attempt_of run)
      (attempt_in 0 some (some_records source is.count) (λ k r at. at) (paired_key paired) (paired_begins run.ends some paired)
      (λ place frame d changed at-f at. absurd (let e : false ≡ true = ap (λ p. altered_at p place) (sym none) ∙ changed in cc)))
