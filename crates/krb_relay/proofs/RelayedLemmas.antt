-- What a relay knows whose levels have all returned.
use Rattle.std.proofs.Common.{◌≡◌, ℕ, ◌+◌, ◌<◌, replicate, true, false, zero, suc, List, [], ◌∷◌, ◌++◌, length, map, reverse, slice_get, refl, sym, ap, ap₂, subst, ◌∙◌, arith, Option, None, Some}
use Rattle.std.specs.Prelude.{All}
use Rattle.std.specs.List.{AllZip, zip}
use Rattle.std.proofs.lemmas.List.{append-nil, length-map, reverse-reverse}
use Rattle.std.proofs.lemmas.List.Elements.{All-nil, All-cons, All-head, All-tail, length_all_zip}
use Rattle.krb_lane.specs.Side.{Side}
use Rattle.krb_peers.specs.declared.receiver.Receiving.{Receiving}
use Rattle.krb_peers.specs.declared.sending.Sent.{Sent}
use Rattle.krb_peers.specs.Ends.{Ends, sents_of}
use Rattle.krb_peers.specs.Log.{new_log}
use Rattle.krb_peers.specs.LogState.{LogState}
use Rattle.krb_peers.specs.Rounds.{rounds}
use Rattle.krb_peers.specs.Run.{Run, IsRun, AreRuns, OfRuns}
use Rattle.krb_peers.specs.Sender.{Source}
use Rattle.krb_peers.specs.Sending.{sent_of}
use Rattle.krb_peers.specs.Wire.{TakesAll}
use Rattle.krb_peers.specs.Verdicts.{AreJudged, groups_of}
use Rattle.krb_peers.specs.Whole.{rounds_of, EndsWhole, IsWholeRun, IsWhole}
use Rattle.krb_peers.proofs.WholeLemmas.{events_of_run, relayed_of}
use Rattle.krb_relay.specs.declared.cause.Cause.{Cause}
use Rattle.krb_relay.specs.declared.cause.Cause.TheVariants.{Memory, Spawn, Lost, BadPlan, Wiped}
use Rattle.krb_relay.specs.declared.cause.OwnCause.{OwnCause}
use Rattle.krb_relay.specs.declared.cause.OwnCause.TheVariants as own
use Rattle.krb_relay.specs.declared.fault.OwnFault.{OwnFault}
use Rattle.krb_relay.specs.declared.fault.WorkerFault.{WorkerFault}
use Rattle.krb_relay.specs.declared.worker.Handed.{Handed}
use Rattle.krb_relay.specs.Cause.{cause_of}
use Rattle.krb_relay.specs.Gathering.{Started, Counts, part_of, got_by, HasEnded, first_of, least, IsServed, Gathers}
use Rattle.krb_relay.specs.Heard.{Heard, heard, answers, groups_in, AreAnswers, BeginsAt, all_heard}
use Rattle.krb_relay.specs.Relayed.{unended, IsLeast, NamesLeast, StopsRelay}
use Rattle.krb_relay.specs.Sealed.{StopsSealing, sealed_on}
use Rattle.krb_relay.specs.Sent.{IsFront, IsAll, IsTrueOf, IsCut, Sends, Served}
use Rattle.krb_relay.proofs.GatheringLemmas.{no_ends, zeros_on}
use Rattle.krb_relay.proofs.HeardLemmas.{rounds_none, none_answered, begins_selves}
use Rattle.krb_relay.proofs.SealedLemmas.{delivers_sealed}
use Rattle.krb_relay.proofs.SentLemmas.{front_nothing, front_shorter, front_sent}

length_heard : (starts : List Receiving) (ends : List Side) → length (all_heard starts ends) ≡ length starts
length_heard [] ends = refl
length_heard (s ∷ starts) [] = ap suc (length_heard starts [])
length_heard (s ∷ starts) (x ∷ ends) = ap suc (length_heard starts ends)

-- where all that a wire carries was taken, it may end
takes_all : (run : Run) → IsWholeRun run → TakesAll run.ends.source run.took
takes_all run h = record { frames = h.emits.frames; sealed = h.emits.sealed; whole = h.emits.wire_is; fits = h.emits.fits }

-- no fault of the thread is one that names a sender
pub own_names : (runs : List Run) (lane : ℕ) (cause : OwnCause) → NamesLeast runs lane (cause_of cause)
own_names runs lane own.Memory = tt
own_names runs lane own.Spawn = tt
own_names runs lane own.Lost = tt

module _ {P : Type 0} (gives : P → Side → Handed → Type 0) (src : P → Source) (keeps : (part : P) (tx : Side) (handed : Handed) → gives part tx handed → Served (src part) tx handed) where
  -- ---- lanes and their runs

  abbrev pub ends_by : P × Receiving → Ends
  ends_by pair = record { source = src (pair.0); receiver = (pair.1).receiver; nows = (pair.1).nows.items }

  abbrev pub lanes_by : List P → List Receiving → List Ends
  lanes_by parts starts = map ends_by (zip parts starts)

  abbrev run_by : P × Heard → Run
  run_by pair = record { ends = ends_by (pair.0, (pair.1).start); took = (pair.1).frames; verdicts = answers (pair.1) }

  abbrev runs_by : List P → List Heard → List Run
  runs_by parts seen = map run_by (zip parts seen)

  run_is : (part : P) (count : ℕ) (h : Heard) → IsFront (src part) count h.frames → AreAnswers h → IsRun (run_by (part, h))
  run_is part count h f are = record { count = count; frames = f.some.frames; sealed = f.some.are; n = f.n; taken = f.taken; judged = are }

  -- the rounds of the runs are those of what was heard
  runs_groups : (parts : List P) (seen : List Heard) → length parts ≡ length seen → map (λ (run : Run). groups_of run.verdicts) (runs_by parts seen) ≡ map groups_in seen
  runs_groups [] [] same = refl
  runs_groups [] (h ∷ seen) same = absurd (omega (arith, same))
  runs_groups (p ∷ parts) [] same = absurd (omega (arith, same))
  runs_groups (p ∷ parts) (h ∷ seen) same = ap (λ l. groups_in h ∷ l) (runs_groups parts seen (omega (arith, same)))

  -- nothing came of lanes that weren't made
  unmade_runs : (parts : List P) (starts : List Receiving) (seen : List Heard) → length parts ≡ length starts → All AreAnswers seen → AllZip BeginsAt seen (all_heard starts []) → AreRuns (lanes_by parts starts) (runs_by parts seen)
  unmade_runs [] [] [] same judged begins = tt
  unmade_runs [] [] (h ∷ seen) same judged begins = absurd begins
  unmade_runs [] (s ∷ starts) seen same judged begins = absurd (omega (arith, same))
  unmade_runs (p ∷ parts) [] seen same judged begins = absurd (omega (arith, same))
  unmade_runs (p ∷ parts) (s ∷ starts) [] same judged begins = absurd begins
  unmade_runs (p ∷ parts) (s ∷ starts) (h ∷ seen) same judged begins =
      let front : IsFront (src p) 0 h.frames = front_shorter (src p) 0 h.frames [] begins.0.1 (front_nothing (src p)) in (
        ap (λ (x : Receiving). ends_by (p, x)) begins.0.0,
        run_is p 0 h front (All-head AreAnswers h seen judged),
        unmade_runs parts starts seen (omega (arith, same)) (All-tail AreAnswers h seen judged) begins.1,
      )

  got_front : (x : Started P) → IsServed gives x → IsFront (src x.part) x.handed.sealed x.got.frames
  got_front x h =
      let k = keeps x.part x.tx x.handed h.kept in
      front_shorter (src x.part) x.handed.sealed x.got.frames x.handed.all.frames h.prefix (front_sent (src x.part) x.handed.sealed x.handed.all.frames x.handed.cause k.sends)

  are_runs : (inner : List (Started P)) (unstarted : List P) (starts : List Receiving) (seen : List Heard) → length (map part_of inner ++ unstarted) ≡ length starts
      → All (IsServed gives) inner → All AreAnswers seen → AllZip BeginsAt seen (all_heard starts (map got_by inner))
      → AreRuns (lanes_by (map part_of inner ++ unstarted) starts) (runs_by (map part_of inner ++ unstarted) seen)
  are_runs [] unstarted starts seen same served judged begins = unmade_runs unstarted starts seen same judged begins
  are_runs (x ∷ inner) unstarted [] seen same served judged begins = absurd (omega (arith, same))
  are_runs (x ∷ inner) unstarted (s ∷ starts) [] same served judged begins = absurd begins
  are_runs (x ∷ inner) unstarted (s ∷ starts) (h ∷ seen) same served judged begins =
      let mine = got_front x (All-head (IsServed gives) x inner served) in
      let front : IsFront (src x.part) x.handed.sealed h.frames = front_shorter (src x.part) x.handed.sealed h.frames x.got.frames begins.0.1 mine in (
        ap (λ (y : Receiving). ends_by (x.part, y)) begins.0.0,
        run_is x.part x.handed.sealed h front (All-head AreAnswers h seen judged),
        are_runs inner unstarted starts seen (omega (arith, same)) (All-tail (IsServed gives) x inner served) (All-tail AreAnswers h seen judged) begins.1,
      )

  -- ---- how many records were sealed

  -- the frames that were taken are a prefix of the wire of so many records, and the verdicts are
  -- those on them
  abbrev FrontOn : Run → ℕ → Type 0
  FrontOn run count = IsFront run.ends.source count run.took × AreJudged run.ends.receiver run.ends.nows run.took run.verdicts

  fronts_are : (inner : List (Started P)) (unstarted : List P) (starts : List Receiving) (seen : List Heard) (sealed : List ℕ) (from : ℕ) → Counts sealed from inner
      → All (IsServed gives) inner → All AreAnswers seen → AllZip BeginsAt seen (all_heard starts (map got_by inner))
      → (lane : ℕ) (run : Run) → slice_get (runs_by (map part_of inner ++ unstarted) seen) lane ≡ Some run → FrontOn run (sealed_on (from + lane) sealed)
  fronts_are [] [] starts seen sealed from counts served judged begins lane run at = absurd (let e = at in cc)
  fronts_are [] (p ∷ unstarted) starts [] sealed from counts served judged begins lane run at = absurd (let e = at in cc)
  fronts_are [] (p ∷ unstarted) [] (h ∷ seen) sealed from counts served judged begins lane run at = absurd begins
  fronts_are [] (p ∷ unstarted) (s ∷ starts) (h ∷ seen) sealed from counts served judged begins zero run at =
      let e : run_by (p, h) ≡ run = cc in
      let none : sealed_on (from + 0) sealed ≡ 0 = counts (from + 0) (omega arith) in
      let C : ℕ → Type 0 = λ n. FrontOn (run_by (p, h)) n in
      let Q : Run → Type 0 = λ r. FrontOn r (sealed_on (from + 0) sealed) in
      subst Q e (subst C (sym none) (front_shorter (src p) 0 h.frames [] begins.0.1 (front_nothing (src p)), All-head AreAnswers h seen judged))
  fronts_are [] (p ∷ unstarted) (s ∷ starts) (h ∷ seen) sealed from counts served judged begins (suc lane) run at =
      let n : suc from + lane ≡ from + suc lane = omega arith in
      let C : ℕ → Type 0 = λ k. FrontOn run (sealed_on k sealed) in
      subst C n (fronts_are [] unstarted starts seen sealed (suc from) (λ later within. counts later (omega (arith, within))) (All-nil (IsServed gives)) (All-tail AreAnswers h seen judged) begins.1 lane run at)
  fronts_are (x ∷ inner) unstarted starts [] sealed from counts served judged begins lane run at = absurd (let e = at in cc)
  fronts_are (x ∷ inner) unstarted [] (h ∷ seen) sealed from counts served judged begins lane run at = absurd begins
  fronts_are (x ∷ inner) unstarted (s ∷ starts) (h ∷ seen) sealed from counts served judged begins zero run at =
      let e : run_by (x.part, h) ≡ run = cc in
      let here : sealed_on (from + 0) sealed ≡ x.handed.sealed = let n : from + 0 ≡ from = omega arith in ap (λ k. sealed_on k sealed) n ∙ counts.0 in
      let C : ℕ → Type 0 = λ n. FrontOn (run_by (x.part, h)) n in
      let Q : Run → Type 0 = λ r. FrontOn r (sealed_on (from + 0) sealed) in
      let mine = got_front x (All-head (IsServed gives) x inner served) in
      subst Q e (subst C (sym here) (front_shorter (src x.part) x.handed.sealed h.frames x.got.frames begins.0.1 mine, All-head AreAnswers h seen judged))
  fronts_are (x ∷ inner) unstarted (s ∷ starts) (h ∷ seen) sealed from counts served judged begins (suc lane) run at =
      let n : from + 1 + lane ≡ from + suc lane = omega arith in
      let C : ℕ → Type 0 = λ k. FrontOn run (sealed_on k sealed) in
      subst C n (fronts_are inner unstarted starts seen sealed (from + 1) counts.1 (All-tail (IsServed gives) x inner served) (All-tail AreAnswers h seen judged) begins.1 lane run at)

  -- ---- lanes that ran to their ends

  whole_run : (x : Started P) (s : Receiving) → IsServed gives x → x.got.ended ≡ true → x.handed.cause ≡ None → IsWholeRun (run_by (x.part, heard s x.got.frames))
  whole_run x s h ended clean =
      let k = keeps x.part x.tx x.handed h.kept in
      let C : Option Cause → Type 0 = λ c. Sends (src x.part) x.handed.sealed x.handed.all.frames c in
      let F : List (List ℕ) → Type 0 = λ fs. IsAll (src x.part) fs in
      let all : IsAll (src x.part) x.got.frames = subst F (sym (h.whole ended)) (subst C clean k.sends).1 in
      record { live = all.live; emits = all.emits }

  whole_runs : (inner : List (Started P)) (starts : List Receiving) → length inner ≡ length starts → All (IsServed gives) inner → All (HasEnded {S = P}) inner → All (λ (x : Started P). x.handed.cause ≡ None) inner
      → OfRuns (runs_by (map part_of inner) (all_heard starts (map got_by inner))) (λ lane run. IsWholeRun run)
  whole_runs [] starts same served ended clean lane run at = absurd (let e = at in cc)
  whole_runs (x ∷ inner) [] same served ended clean lane run at = absurd (omega (arith, same))
  whole_runs (x ∷ inner) (s ∷ starts) same served ended clean zero run at =
      let e : run_by (x.part, heard s x.got.frames) ≡ run = cc in
      let Q : Run → Type 0 = λ r. IsWholeRun r in
      subst Q e (whole_run x s (All-head (IsServed gives) x inner served) (All-head (HasEnded {S = P}) x inner ended) (All-head (λ (y : Started P). y.handed.cause ≡ None) x inner clean))
  whole_runs (x ∷ inner) (s ∷ starts) same served ended clean (suc lane) run at =
      whole_runs inner starts (omega (arith, same)) (All-tail (IsServed gives) x inner served) (All-tail (HasEnded {S = P}) x inner ended) (All-tail (λ (y : Started P). y.handed.cause ≡ None) x inner clean) lane run at

  -- no worker had a fault
  clean_by : (n : ℕ) (x : Started P) (inner : List (Started P)) (cause : Option Cause) → cause ≡ x.handed.cause → first_of cause n (least (n + 1) inner) ≡ None
      → (least (n + 1) inner ≡ None → All (λ (y : Started P). y.handed.cause ≡ None) inner) → All (λ (y : Started P). y.handed.cause ≡ None) (x ∷ inner)
  clean_by n x inner None is h later = All-cons (λ (y : Started P). y.handed.cause ≡ None) x inner (sym is) (later h)
  clean_by n x inner (Some c) is h later = absurd (let e = h in cc)

  all_clean : (n : ℕ) (inner : List (Started P)) → least n inner ≡ None → All (λ (y : Started P). y.handed.cause ≡ None) inner
  all_clean n [] h = All-nil (λ (y : Started P). y.handed.cause ≡ None)
  all_clean n (x ∷ inner) h = clean_by n x inner x.handed.cause refl h (all_clean (n + 1) inner)

  -- ---- the fault that is named

  record Named (n : ℕ) (runs : List Run) (fault : WorkerFault) : Type 0 where
    place : ℕ
    lane_is : n + place ≡ fault.lane
    run : Run
    at : slice_get runs place ≡ Some run
    reason : IsTrueOf run.ends.source run.took fault.cause
    below : (other : ℕ) (its : Run) → other < place → slice_get runs other ≡ Some its → IsWholeRun its

  true_of : (x : Started P) → IsServed gives x → x.got.ended ≡ true → (cause : Cause) → x.handed.cause ≡ Some cause → IsTrueOf (src x.part) x.got.frames cause
  true_of x h ended cause is =
      let k = keeps x.part x.tx x.handed h.kept in
      let C : Option Cause → Type 0 = λ c. Sends (src x.part) x.handed.sealed x.handed.all.frames c in
      let F : List (List ℕ) → Type 0 = λ fs. IsCut (src x.part) x.handed.sealed fs cause in
      let cut : IsCut (src x.part) x.handed.sealed x.got.frames cause = subst F (sym (h.whole ended)) (subst C is k.sends) in
      cut.reason

  named_by : (n : ℕ) (x : Started P) (inner : List (Started P)) (s : Receiving) (starts : List Receiving) (fault : WorkerFault) (cause : Option Cause) → cause ≡ x.handed.cause
      → IsServed gives x → x.got.ended ≡ true
      → first_of cause n (least (n + 1) inner) ≡ Some fault
      → (least (n + 1) inner ≡ Some fault → Named (n + 1) (runs_by (map part_of inner) (all_heard starts (map got_by inner))) fault)
      → Named n (runs_by (map part_of (x ∷ inner)) (all_heard (s ∷ starts) (map got_by (x ∷ inner)))) fault
  named_by n x inner s starts fault None is served ended h later =
      let w = later h in
      record {
        place = suc w.place;
        lane_is = (let e = w.lane_is in omega (arith, e));
        run = w.run;
        at = w.at;
        reason = w.reason;
        below = λ other its lt found. below_by w other its lt found;
      }
    where
      below_by : (w : Named (n + 1) (runs_by (map part_of inner) (all_heard starts (map got_by inner))) fault) (other : ℕ) (its : Run) → other < suc w.place
          → slice_get (runs_by (map part_of (x ∷ inner)) (all_heard (s ∷ starts) (map got_by (x ∷ inner)))) other ≡ Some its → IsWholeRun its
      below_by w zero its lt found =
          let e : run_by (x.part, heard s x.got.frames) ≡ its = cc in
          let Q : Run → Type 0 = λ r. IsWholeRun r in
          subst Q e (whole_run x s served ended (sym is))
      below_by w (suc other) its lt found = w.below other its (omega (arith, lt)) found
  named_by n x inner s starts fault (Some c) is served ended h later =
      let f : WorkerFault = record { cause = c; lane = n } in
      let e : f ≡ fault = cc in
      let cause_is : c ≡ fault.cause = ap (λ (g : WorkerFault). g.cause) e in
      record {
        place = 0;
        lane_is = (let l = ap (λ (g : WorkerFault). g.lane) e in omega (arith, l));
        run = run_by (x.part, heard s x.got.frames);
        at = refl;
        reason = true_of x served ended fault.cause (sym is ∙ ap (λ (y : Cause). Some y) cause_is);
        below = λ other its lt found. absurd (omega (arith, lt));
      }

  named_from : (n : ℕ) (inner : List (Started P)) (starts : List Receiving) (fault : WorkerFault) → length inner ≡ length starts → All (IsServed gives) inner → All (HasEnded {S = P}) inner
      → least n inner ≡ Some fault → Named n (runs_by (map part_of inner) (all_heard starts (map got_by inner))) fault
  named_from n [] starts fault same served ended h = absurd (let e : None ≡ Some fault = h in cc)
  named_from n (x ∷ inner) [] fault same served ended h = absurd (omega (arith, same))
  named_from n (x ∷ inner) (s ∷ starts) fault same served ended h =
      named_by n x inner s starts fault x.handed.cause refl (All-head (IsServed gives) x inner served) (All-head (HasEnded {S = P}) x inner ended) h
      (λ later. named_from (n + 1) inner starts fault (omega (arith, same)) (All-tail (IsServed gives) x inner served) (All-tail (HasEnded {S = P}) x inner ended) later)

  names : (runs : List Run) (fault : WorkerFault) (cause : Cause) → cause ≡ fault.cause → Named 0 runs fault → NamesLeast runs fault.lane cause
  names runs fault cause is w = by_cause cause is
    where
      least_is : IsLeast runs fault.lane fault.cause
      least_is =
          let e : w.place ≡ fault.lane = let l = w.lane_is in omega (arith, l) in
          let P : ℕ → Type 0 = λ k. slice_get runs k ≡ Some w.run in
          let Q : ℕ → Type 0 = λ k. (other : ℕ) (its : Run) → other < k → slice_get runs other ≡ Some its → IsWholeRun its in
          record { run = w.run; named = subst P e w.at; reason = w.reason; below = subst Q e w.below }

      by_cause : (cause : Cause) → cause ≡ fault.cause → NamesLeast runs fault.lane cause
      by_cause Memory e = tt
      by_cause Spawn e = tt
      by_cause Lost e = tt
      by_cause BadPlan e = let R : Cause → Type 0 = λ c. IsLeast runs fault.lane c in subst R (sym e) least_is
      by_cause Wiped e = let R : Cause → Type 0 = λ c. IsLeast runs fault.lane c in subst R (sym e) least_is

  -- ---- from what was gathered

  module _ (parts backward : List P) (starts : List Receiving) (now : List Side) (log : LogState) (sealed : List ℕ) (mine : Option OwnFault) (fault : Option WorkerFault)
      (turned : backward ≡ reverse parts) (same : length parts ≡ length starts) (g : Gathers gives backward starts [] now log sealed mine fault) where
    no_now : now ≡ []
    no_now = no_ends now g.same

    parts_split : parts ≡ map part_of g.inner ++ g.unstarted
    parts_split = sym (reverse-reverse parts) ∙ (ap reverse (sym turned) ∙ g.parts_are)

    begun : AllZip BeginsAt g.seen (all_heard starts (map got_by g.inner))
    begun =
        let Q : List Side → Type 0 = λ x. AllZip BeginsAt g.seen (all_heard starts (x ++ map got_by g.inner)) in
        subst Q no_now g.begins

    seen_long : length g.seen ≡ length starts
    seen_long = length_all_zip BeginsAt g.seen (all_heard starts (map got_by g.inner)) begun ∙ length_heard starts (map got_by g.inner)

    are : AreRuns (lanes_by parts starts) (runs_by parts g.seen)
    are =
        let Q : List P → Type 0 = λ ps. AreRuns (lanes_by ps starts) (runs_by ps g.seen) in
        subst Q (sym parts_split) (are_runs g.inner g.unstarted starts g.seen (ap length (sym parts_split) ∙ same) g.served g.judged begun)

    logged : log.entries ≡ rounds_of (runs_by parts g.seen)
    logged = g.logged ∙ ap rounds (sym (runs_groups parts g.seen (same ∙ sym seen_long)))

    -- where the thread met no fault, every lane was made, and taken to its End
    module _ (none : mine ≡ None) where
      all_made : parts ≡ map part_of g.inner
      all_made = parts_split ∙ (ap (λ x. map part_of g.inner ++ x) (g.whole none).0 ∙ append-nil (map part_of g.inner))

      as_many : length g.inner ≡ length starts
      as_many = sym (length-map g.inner part_of) ∙ (ap length (sym all_made) ∙ same)

      seen_is : g.seen ≡ all_heard starts (map got_by g.inner)
      seen_is = (g.whole none).1 ∙ ap (λ x. all_heard starts (x ++ map got_by g.inner)) no_now

      runs_are : runs_by parts g.seen ≡ runs_by (map part_of g.inner) (all_heard starts (map got_by g.inner))
      runs_are = ap₂ (λ ps hs. runs_by ps hs) all_made seen_is

      pub whole_of : (sents : List Sent) → fault ≡ None → sents ≡ sents_of (lanes_by parts starts) → IsWhole (lanes_by parts starts) log sents
      whole_of sents clean sealed =
          let W : List Run → Type 0 = λ rs. OfRuns rs (λ lane run. IsWholeRun run) in
          let whole : OfRuns (runs_by parts g.seen) (λ lane run. IsWholeRun run) =
          subst W (sym runs_are) (whole_runs g.inner starts as_many g.served (g.whole none).3 (all_clean 0 g.inner (sym g.named ∙ clean))) in
          let taken : OfRuns (runs_by parts g.seen) (EndsWhole log) = λ lane run at ended. takes_all run (whole lane run at) in
          let count : length (lanes_by parts starts) ≡ length starts = length_lanes parts starts same in
          record {
            relayed = relayed_of (lanes_by parts starts) (runs_by parts g.seen) log are logged taken;
            whole = whole;
            ended = λ lane lt. (g.whole none).4 lane (omega (arith, count, lt));
            sealed = sealed;
          }
        where
          length_lanes : (ps : List P) (ss : List Receiving) → length ps ≡ length ss → length (lanes_by ps ss) ≡ length ss
          length_lanes [] [] e = refl
          length_lanes [] (s ∷ ss) e = absurd (omega (arith, e))
          length_lanes (p ∷ ps) [] e = absurd (omega (arith, e))
          length_lanes (p ∷ ps) (s ∷ ss) e = ap suc (length_lanes ps ss (omega (arith, e)))

      names_worker : (met : WorkerFault) (cause : Cause) → fault ≡ Some met → cause ≡ met.cause → NamesLeast (runs_by parts g.seen) met.lane cause
      names_worker met cause is cause_is =
          let N : List Run → Type 0 = λ rs. NamesLeast rs met.lane cause in
          subst N (sym runs_are) (names (runs_by (map part_of g.inner) (all_heard starts (map got_by g.inner))) met cause cause_is (named_from 0 g.inner starts met as_many g.served (g.whole none).3 (sym g.named ∙ is)))

    none_ended : OfRuns (runs_by parts g.seen) (EndsWhole (unended log))
    none_ended lane run at ended = absurd (let e : false ≡ true = ended in cc)

    stops_of : (lane : ℕ) (cause : Cause) → NamesLeast (runs_by parts g.seen) lane cause → StopsRelay (lanes_by parts starts) log lane cause
    stops_of lane cause told = record {
      relayed = relayed_of (lanes_by parts starts) (runs_by parts g.seen) (unended log) are logged none_ended;
      names = told;
    }

    -- and each lane delivers a prefix of what was sealed on it
    pub seals_of : StopsSealing (lanes_by parts starts) log sealed
    seals_of = record {
      runs = runs_by parts g.seen;
      are = are;
      entries = logged;
      each = λ lane run at.
          let front : FrontOn run (sealed_on lane sealed) =
          let Q : List P → Type 0 = λ ps. (l : ℕ) (r : Run) → slice_get (runs_by ps g.seen) l ≡ Some r → FrontOn r (sealed_on l sealed) in
          subst Q (sym parts_split) (λ l r is. let n : 0 + l ≡ l = omega arith in
          let R : ℕ → Type 0 = λ k. FrontOn r (sealed_on k sealed) in
          subst R n (fronts_are g.inner g.unstarted starts g.seen sealed 0 g.counted g.served g.judged begun l r is)) lane run at in
          delivers_sealed log lane (sealed_on lane sealed) run front.0 front.1 (events_of_run (runs_by parts g.seen) log logged lane run at);
    }

    -- a fault of the thread, and one of a worker
    pub stopped_own : (met : OwnFault) → StopsRelay (lanes_by parts starts) log met.lane (cause_of met.cause)
    stopped_own met = stops_of met.lane (cause_of met.cause) (own_names (runs_by parts g.seen) met.lane met.cause)

    pub stopped_worker : (met : WorkerFault) → mine ≡ None → fault ≡ Some met → StopsRelay (lanes_by parts starts) log met.lane met.cause
    stopped_worker met none is = stops_of met.lane met.cause (names_worker none met met.cause is refl)

  -- and how much each sender seals is told of its lane
  pub sents_are : (parts : List P) (starts : List Receiving) → length parts ≡ length starts → map (λ part. sent_of (src part)) parts ≡ sents_of (lanes_by parts starts)
  sents_are [] [] same = refl
  sents_are [] (s ∷ starts) same = absurd (omega (arith, same))
  sents_are (p ∷ parts) [] same = absurd (omega (arith, same))
  sents_are (p ∷ parts) (s ∷ starts) same = ap (λ l. sent_of (src p) ∷ l) (sents_are parts starts (omega (arith, same)))

  -- nothing was started
  pub stopped_unstarted : (parts : List P) (starts : List Receiving) (log : LogState) → length parts ≡ length starts → log ≡ new_log (length starts) → StopsRelay (lanes_by parts starts) log 0 Memory
  stopped_unstarted parts starts log same is =
      let seen : List Heard = all_heard starts [] in
      let empty : All (λ (rx : Side). rx.frames ≡ []) [] = All-nil (λ (rx : Side). rx.frames ≡ []) in
      let entries : log.entries ≡ rounds_of (runs_by parts seen) =
      ap (λ (l : LogState). l.entries) is ∙ (rounds_none starts [] empty ∙ ap rounds (sym (runs_groups parts seen (same ∙ sym (length_heard starts []))))) in
      record {
        relayed =
            relayed_of (lanes_by parts starts) (runs_by parts seen) (unended log)
            (unmade_runs parts starts seen same (none_answered starts [] empty) (begins_selves seen)) entries
            (λ lane run at ended. absurd (let e : false ≡ true = ended in cc));
        names = tt;
      }

  -- and nothing was sealed
  pub unstarted_seals : (parts : List P) (starts : List Receiving) (log : LogState) (sealed : List ℕ) → length parts ≡ length starts → log ≡ new_log (length starts) → sealed ≡ replicate 8 0
      → StopsSealing (lanes_by parts starts) log sealed
  unstarted_seals parts starts log sealed same is zeros =
      let seen : List Heard = all_heard starts [] in
      let empty : All (λ (rx : Side). rx.frames ≡ []) [] = All-nil (λ (rx : Side). rx.frames ≡ []) in
      let entries : log.entries ≡ rounds_of (runs_by parts seen) =
      ap (λ (l : LogState). l.entries) is ∙ (rounds_none starts [] empty ∙ ap rounds (sym (runs_groups parts seen (same ∙ sym (length_heard starts []))))) in
      record {
        runs = runs_by parts seen;
        are = unmade_runs parts starts seen same (none_answered starts [] empty) (begins_selves seen);
        entries = entries;
        each = λ lane run at.
            let none : (later : ℕ) → sealed_on later sealed ≡ 0 = λ later. ap (sealed_on later) zeros ∙ zeros_on later in
            let front : FrontOn run (sealed_on (0 + lane) sealed) =
            fronts_are [] parts starts seen sealed 0 (λ later within. none later) (All-nil (IsServed gives)) (none_answered starts [] empty) (begins_selves seen) lane run at in
            let n : 0 + lane ≡ lane = omega arith in
            let C : ℕ → Type 0 = λ k. FrontOn run (sealed_on k sealed) in
            let mine = subst C n front in
            delivers_sealed log lane (sealed_on lane sealed) run mine.0 mine.1 (events_of_run (runs_by parts seen) log entries lane run at);
      }
