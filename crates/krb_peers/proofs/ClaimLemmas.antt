-- The headline of a session's frames, and of a lane, by what a log has of it.
use Rattle.std.proofs.Common.{◌≡◌, ℕ, true, List, sym, ap, subst, ◌∙◌}
use Rattle.std.specs.List.{list_any}
use Rattle.krb_base.specs.Prefix.{IsPrefix}
use Rattle.krb_record.specs.declared.record.Record.{Record}
use Rattle.krb_record.specs.Record.{is_close}
use Rattle.krb_seal.specs.Sealer.{SealerState}
use Rattle.krb_peers.specs.declared.log.Event.{Event}
use Rattle.krb_peers.specs.Attempt.{Attempt, TakesInTurn}
use Rattle.krb_peers.specs.Log.{events_of, texts_in, has_closed, has_ended}
use Rattle.krb_peers.specs.LogState.{LogState}
use Rattle.krb_peers.specs.Planned.{attempt_of, Headline, DeliversWhole}
use Rattle.krb_peers.specs.Sender.{records, sealed_groups}
use Rattle.krb_peers.specs.Verdicts.{AreJudged, events_from, records_of}
use Rattle.krb_peers.specs.Run.{Run, IsRun}
use Rattle.krb_peers.specs.Wire.{TakesAll}
use Rattle.krb_peers.specs.Claims.{FramesHeadline, texts_with}
use Rattle.krb_peers.specs.Texts.{texts_of_all}
use Rattle.krb_peers.proofs.AttemptLemmas.{texts_prefix, texts_whole, accepts_rest, rest_whole, all_accepted, none_refused}
use Rattle.krb_peers.proofs.LoggedLemmas.{closed_events, or_right}
use Rattle.krb_peers.proofs.SourceLemmas.{texts_of_records, paired_attempt}
use Rattle.krb_peers.proofs.HeadlineLemmas.{quiet_after, refuses, refusal_nothing}
use Rattle.krb_peers.proofs.CarriedLemmas.{calm_whole, carried_whole}

-- ---- of the frames of a session

pub frames_headline_of : (sealer : SealerState) (all : List Record) (first : ℕ) (attempt : Attempt) (events : List Event) → AreJudged attempt.receiver attempt.nows attempt.took attempt.verdicts → events ≡ events_from attempt.verdicts
    → FramesHeadline sealer all first attempt events
frames_headline_of sealer all first attempt events judged same =
    let receiver = attempt.receiver in
    let vs = attempt.verdicts in
    let start = receiver.demand in
    let texts : texts_with all first events ≡ texts_with all first (events_from vs) = ap (λ es. texts_with all first es) same in
    record {
      delivered_prefix = λ is.
          let P : List (List ℕ) → Type 0 = λ l. IsPrefix l (texts_of_all all) in
          subst P (sym texts) (texts_prefix sealer all first attempt is);
      nothing_after_close = λ front back at. quiet_after receiver.opener attempt.nows start 0 attempt.took vs judged front back (sym same ∙ at);
      all_where_closed = λ is closed.
          let any : list_any is_close (records_of vs) ≡ true = sym (closed_events vs) ∙ (ap has_closed (sym same) ∙ closed) in
          texts ∙ texts_whole sealer all first attempt is (or_right start.closed (list_any is_close (records_of vs)) any);
      all_where_undisturbed = λ is fits turn count.
          let accepted = accepts_rest sealer all first attempt is fits turn in
          let every = all_accepted sealer all first attempt is fits (subst (λ n. TakesInTurn sealer all first n attempt) (sym count) turn) in
          (texts ∙ (rest_whole sealer all first attempt is accepted).0, none_refused sealer all first attempt is every);
      all_where_carried = λ is fits turn.
          let accepted = accepts_rest sealer all first attempt is fits turn in
          (texts ∙ (rest_whole sealer all first attempt is accepted).0, ap has_closed same ∙ (closed_events vs ∙ ap (λ l. list_any is_close l) accepted));
      refused_exactly = λ place frame refusal at. refuses receiver.opener attempt.nows start attempt.took vs judged place frame refusal at;
      refusals_deliver_nothing = λ front back refusal at.
          let w = refusal_nothing start vs front back refusal at in
          (ap texts_in same ∙ w.0, w.1);
    }

-- ---- of a lane

-- it follows where the log has of the lane what the verdicts of a run bring, and where the lane
-- ends only after all that its wire carries
pub headline_of : (run : Run) (lane : ℕ) (log : LogState) → IsRun run → events_of lane log.entries ≡ events_from run.verdicts
    → (has_ended lane log ≡ true → TakesAll run.ends.source run.took) → Headline log lane run
headline_of run lane log is entries takes_all =
    let source = run.ends.source in
    let events = events_of lane log.entries in
    let all = frames_headline_of source.sealer (records source) 0 (attempt_of run) events is.judged entries in
    let sealed = texts_of_records (sealed_groups source) in
    record {
      delivered_prefix = λ paired honest.
          let w = all.delivered_prefix (paired_attempt run is paired honest) in
          (w.0, sym sealed ∙ w.1);
      nothing_after_close = all.nothing_after_close;
      all_where_closed = λ paired honest closed. all.all_where_closed (paired_attempt run is paired honest) closed ∙ sealed;
      all_where_undisturbed = λ calm ended. ap texts_in entries ∙ calm_whole run calm is (takes_all ended);
      all_where_carried = λ carried honest ended.
          let P : List Event → Type 0 = λ es. DeliversWhole source es in
          subst P (sym entries) (carried_whole run carried honest is (takes_all ended));
      refused_exactly = all.refused_exactly;
      refusals_deliver_nothing = all.refusals_deliver_nothing;
    }
