-- The runs of lanes that have begun: their whole wires.
use Rattle.std.proofs.Common.{◌≡◌, ℕ, zero, suc, ◌<◌, ◌≤◌, true, List, [], ◌∷◌, length, map, take, Result, Ok, Err, OnOk, refl, sym, ap, ap₂, subst, ◌∙◌, arith}
use Rattle.std.proofs.lemmas.List.{take_all}
use Rattle.krb_base.specs.Prefix.{IsPrefix}
use Rattle.krb_peers.specs.declared.log.Entry.{Entry}
use Rattle.krb_peers.specs.declared.sending.Sent.{Sent}
use Rattle.krb_peers.specs.Sender.{records}
use Rattle.krb_peers.specs.Verdicts.{groups_of}
use Rattle.krb_peers.specs.Log.{has_ended}
use Rattle.krb_peers.specs.Ends.{Ends, sents_of}
use Rattle.krb_peers.specs.Run.{Run, IsRun, AreRuns}
use Rattle.krb_peers.specs.Rounds.{rounds}
use Rattle.krb_peers.specs.Whole.{rounds_of, IsWholeRun, IsWhole, IsPart}
use Rattle.krb_peers.proofs.VerdictLemmas.{verdicts_follow}
use Rattle.krb_peers.proofs.WholeLemmas.{run_over, relayed_of, AllWhole}
use Rattle.krb_core.specs.Start.{IsBegun, AreBegun}
use Rattle.krb_core.specs.Track.{TrackState}
use Rattle.krb_core.specs.Stepped.{Relay}
use Rattle.krb_core.specs.Relayed.{HasTurned}
use Rattle.krb_core.specs.Finish.{groups_over, FromStart, WithRoom, whole_log}
use Rattle.krb_core.proofs.StartLemmas.{AreBegun-length}

abbrev runs_of : List Ends → List TrackState → List Run
runs_of [] tracks = []
runs_of (ends ∷ lanes) [] = []
runs_of (ends ∷ lanes) (track ∷ tracks) = run_over ends track.wire ∷ runs_of lanes tracks

-- of a whole wire all records were sealed
run_begun : (capacity : ℕ) (ends : Ends) (track : TrackState) (sent : Sent) → IsBegun ends capacity track sent → IsRun (run_over ends track.wire)
run_begun capacity ends track sent h =
    let all = records ends.source in
    let short : length all ≤ length all = omega arith in
    let long : length track.wire ≤ length track.wire = omega arith in
    let whole : take (length all) all ≡ all = take_all (length all) all short in
    record {
      count = length all;
      frames = h.emitted.frames;
      sealed = rw whole h.emitted.sealed;
      n = length track.wire;
      taken = sym (take_all (length track.wire) track.wire long) ∙ ap (take (length track.wire)) h.emitted.wire_is;
      judged = (let start = ends.receiver.demand in verdicts_follow ends.receiver.opener ends.nows start 0 track.wire h.emitted.bytes);
    }

runs_begun : (capacity : ℕ) (lanes : List Ends) (tracks : List TrackState) (sents : List Sent) → AreBegun capacity lanes tracks sents → AreRuns lanes (runs_of lanes tracks)
runs_begun capacity [] [] [] h = tt
runs_begun capacity [] [] (s ∷ ss) h = absurd h
runs_begun capacity [] (t ∷ ts) ss h = absurd h
runs_begun capacity (e ∷ es) [] ss h = absurd h
runs_begun capacity (e ∷ es) (t ∷ ts) [] h = absurd h
runs_begun capacity (e ∷ es) (t ∷ ts) (s ∷ ss) h = (refl, run_begun capacity e t s h.0, runs_begun capacity es ts ss h.1)

whole_begun : (capacity : ℕ) (lanes : List Ends) (tracks : List TrackState) (sents : List Sent) → AreBegun capacity lanes tracks sents → AllWhole (runs_of lanes tracks)
whole_begun capacity [] tracks sents h lane run at = absurd (let e = at in cc)
whole_begun capacity (e ∷ es) [] sents h lane run at = absurd (let f = at in cc)
whole_begun capacity (e ∷ es) (t ∷ ts) [] h lane run at = absurd h
whole_begun capacity (e ∷ es) (t ∷ ts) (s ∷ ss) h zero run at =
    let same : run_over e t.wire ≡ run = cc in
    let P : Run → Type 0 = λ x. IsWholeRun x in
    subst P same (record { live = h.0.live; emits = h.0.emitted })
whole_begun capacity (e ∷ es) (t ∷ ts) (s ∷ ss) h (suc lane) run at = whole_begun capacity es ts ss h.1 lane run at

events_begun : (capacity : ℕ) (ends : Ends) (track : TrackState) (sent : Sent) → IsBegun ends capacity track sent → groups_over track ≡ groups_of (run_over ends track.wire).verdicts
events_begun capacity ends track sent h = ap groups_over h.is_fresh

rounds_begun : (capacity : ℕ) (lanes : List Ends) (tracks : List TrackState) (sents : List Sent) → AreBegun capacity lanes tracks sents
    → map groups_over tracks ≡ map (λ run. groups_of run.verdicts) (runs_of lanes tracks)
rounds_begun capacity [] [] [] h = refl
rounds_begun capacity [] [] (s ∷ ss) h = absurd h
rounds_begun capacity [] (t ∷ ts) ss h = absurd h
rounds_begun capacity (e ∷ es) [] ss h = absurd h
rounds_begun capacity (e ∷ es) (t ∷ ts) [] h = absurd h
rounds_begun capacity (e ∷ es) (t ∷ ts) (s ∷ ss) h = ap₂ (λ x xs. x ∷ xs) (events_begun capacity e t s h.0) (rounds_begun capacity es ts ss h.1)

module _ (lanes : List Ends) (capacity : ℕ) (old now : Relay) (fresh : HasTurned lanes capacity [] old) where
  begun : AreBegun capacity lanes old.tracks old.sents
  begun = let P : Relay → Type 0 = λ r. AreBegun capacity lanes r.tracks r.sents in subst P (sym fresh.left) fresh.start.lanes_are

  same : whole_log old ≡ rounds_of (runs_of lanes old.tracks)
  same = ap rounds (rounds_begun capacity lanes old.tracks old.sents begun)

  are : AreRuns lanes (runs_of lanes old.tracks)
  are = runs_begun capacity lanes old.tracks old.sents begun

  all_whole : AllWhole (runs_of lanes old.tracks)
  all_whole = whole_begun capacity lanes old.tracks old.sents begun

  pub whole_from : now.log.entries ≡ whole_log old → ((lane : ℕ) → lane < length old.tracks → has_ended lane now.log ≡ true) → length old.tracks ≡ length lanes → now.sents ≡ sents_of lanes
      → IsWhole lanes now.log now.sents
  whole_from entries ended count sents =
      record {
        relayed = relayed_of lanes (runs_of lanes old.tracks) now.log are (entries ∙ same) (λ lane run at was.
            let emits = (all_whole lane run at).emits in
            record { frames = emits.frames; sealed = emits.sealed; whole = emits.wire_is; fits = emits.fits });
        whole = all_whole;
        ended = λ lane lt. ended lane (rw count lt);
        sealed = sents;
      }

  pub part_from : IsPrefix now.log.entries (whole_log old) → IsPart lanes now.log
  part_from front = record {
    runs = runs_of lanes old.tracks;
    are = are;
    whole = all_whole;
    entries = subst (λ (l : List Entry). IsPrefix now.log.entries l) same front;
  }

-- where running to the end is answered
pub whole_by : {A E : Type 0} (lanes : List Ends) (capacity : ℕ) (old now : Relay) (r : Result A E) → 1 ≤ capacity → HasTurned lanes capacity [] old
    → FromStart old (OnOk r (now.log.entries ≡ whole_log old)) → WithRoom old (OnOk r ((lane : ℕ) → lane < length old.tracks → has_ended lane now.log ≡ true)) → now.sents ≡ sents_of lanes
    → OnOk r (IsWhole lanes now.log now.sents)
whole_by lanes capacity old now (Ok a) room fresh entries ended sents =
    whole_from lanes capacity old now fresh (entries lanes capacity room fresh) (ended lanes capacity [] room fresh)
    (AreBegun-length capacity lanes old.tracks old.sents (begun lanes capacity old now fresh)).tracks_are sents
whole_by lanes capacity old now (Err e) room fresh entries ended sents = tt
