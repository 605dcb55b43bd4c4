-- What is delivered of the records that were sealed.
use Rattle.std.proofs.Common.{◌≡◌, ℕ, List, [], ◌∷◌, ◌++◌, length, take, drop, inl, inr, refl, sym, ap, subst, ◌∙◌, arith}
use Rattle.std.specs.List.{flat_map}
use Rattle.std.proofs.lemmas.List.{take_all, take-append-drop}
use Rattle.krb_base.specs.Prefix.{IsPrefix}
use Rattle.krb_peers.specs.declared.log.Event.{Event}
use Rattle.krb_peers.specs.Log.{events_of, texts_in}
use Rattle.krb_peers.specs.LogState.{LogState}
use Rattle.krb_peers.specs.Plan.{wire}
use Rattle.krb_peers.specs.Planned.{IsPaired, AlteredAreHonest}
use Rattle.krb_record.specs.Record.{texts_of}
use Rattle.krb_peers.specs.Run.{Run, IsRun}
use Rattle.krb_peers.specs.Sender.{records}
use Rattle.krb_record.specs.declared.record.Record.{Record}
use Rattle.krb_peers.specs.Verdicts.{Verdict, AreJudged, events_from, records_of}
use Rattle.krb_peers.proofs.AcceptedPrefix.{texts_prefix}
use Rattle.krb_peers.proofs.AnswerLemmas.{delivered_texts}
use Rattle.krb_peers.proofs.SourceLemmas.{records_prefix, sealed_prefix}
use Rattle.krb_relay.specs.Sealed.{DeliversSealed, first_texts}
use Rattle.krb_relay.specs.Sent.{IsFront}

-- the texts of a prefix of records are a prefix of their texts
texts_of_prefix : (vs : List Verdict) (carried : List Record) → IsPrefix (records_of vs) carried → IsPrefix (texts_in (events_from vs)) (flat_map texts_of carried)
texts_of_prefix vs carried p =
    let w = texts_prefix (records_of vs) carried p in
    (w.0, w.1 ∙ ap (λ ts. ts ++ w.0) (sym (delivered_texts vs)))

nothing_delivered : (run : Run) → AreJudged run.ends.receiver run.ends.nows run.took run.verdicts → run.took ≡ [] → run.verdicts ≡ []
nothing_delivered run judged none = none_judged run.verdicts (judged.one_each ∙ ap length none)
  where
    none_judged : (vs : List Verdict) → length vs ≡ 0 → vs ≡ []
    none_judged [] e = refl
    none_judged (v ∷ vs) e = absurd (omega (arith, e))

accepted_sealed : (count : ℕ) (run : Run) → IsFront run.ends.source count run.took → AreJudged run.ends.receiver run.ends.nows run.took run.verdicts
    → IsPaired run.ends → AlteredAreHonest run → IsPrefix (records_of run.verdicts) (take count (records run.ends.source))
accepted_sealed count run front judged paired honest =
    let rs = records run.ends.source in
    let is : IsRun run = record { count = count; frames = front.some.frames; sealed = front.some.are; n = front.n; taken = front.taken; judged = judged } in
    let P : List Record → Type 0 = λ carried. IsPrefix (records_of run.verdicts) carried in
    let V : List Verdict → Type 0 = λ vs. IsPrefix (records_of vs) (take count rs) in
    elim front.waits [
      | inl unplanned ↦ sealed_prefix run is paired unplanned
      | inr later ↦ elim later [
        | inl all ↦ subst P (sym (take_all count rs (omega (arith, all)))) (records_prefix run is paired honest)
        | inr unsent ↦ subst V (sym (nothing_delivered run judged unsent)) (take count rs, refl)
      ]
    ]

pub delivers_sealed : (log : LogState) (lane count : ℕ) (run : Run) → IsFront run.ends.source count run.took → AreJudged run.ends.receiver run.ends.nows run.took run.verdicts
    → events_of lane log.entries ≡ events_from run.verdicts → DeliversSealed log lane count run
delivers_sealed log lane count run front judged entries = record {
  few = front.some.few;
  frames = front.some.frames;
  sealed = front.some.are;
  taken = prefix_taken (wire (front.some.frames) run.ends.source.plan) front.n run.took front.taken;
  delivered = λ paired honest.
      let Q : List Event → Type 0 = λ es. IsPrefix (texts_in es) (first_texts run.ends.source count) in
      subst Q (sym entries) (texts_of_prefix run.verdicts (take count (records run.ends.source)) (accepted_sealed count run front judged paired honest));
}
  where
    prefix_taken : (whole : List (List ℕ)) (n : ℕ) (took : List (List ℕ)) → took ≡ take n whole → IsPrefix took whole
    prefix_taken whole n took e = (drop n whole, sym (take-append-drop n whole) ∙ ap (λ xs. xs ++ drop n whole) (sym e))
