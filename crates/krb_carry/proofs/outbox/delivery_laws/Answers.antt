use Rattle.std.proofs.Common.{◌≡◌, ◌+◌, ◌++◌, [], length, refl, sym, ap, ◌∙◌, arith, append_assoc, append-nil}
use Rattle.std.specs.List.{list_any}
use Rattle.std.proofs.lemmas.List.{take_all}
use Rattle.krb_record.specs.Record.{is_close}
use Rattle.std.proofs.lemmas.List.Elements.{All-nil}
use Rattle.krb_peers.specs.Attempt.{IsAttempt}
use Rattle.krb_peers.specs.Texts.{texts_of_all}
use Rattle.krb_peers.specs.Demand.{Demand}
use Rattle.krb_carry.specs.Outbox.{sealed_in, stored_records, texts_put}
use Rattle.krb_carry.specs.Laws.{EachTakesEffectOnceByReceipts}
use Rattle.krb_carry.specs.Progress.{resumed, after_all}
use Rattle.krb_carry.specs.Store.{new_session}
use Rattle.krb_carry.proofs.DeliveryLemmas.{delivery}
use Rattle.krb_carry.proofs.OutboxLemmas.{outbox_sound, sound_records, sound_fit, length-sealed_in, length-records, texts_are, close_is}
use Rattle.krb_carry.proofs.ProgressLemmas.{none_stand, turn_after_all}
use Rattle.krb_carry.proofs.ReadingLemmas.{read_none, read_all, all_accepted, after_whole}
use Rattle.krb_carry.proofs.StoreLemmas.{first_take_effect, effects_prefix}
use Rattle.krb_carry.proofs.outbox.delivery_laws.Goals as goal

once_by_receipts : EachTakesEffectOnceByReceipts
once_by_receipts sealer acts outbox each leads attempts then session shard next done happenings readings stored tries lead receipt true_ are_readings read none whole at =
    let sound = outbox_sound sealer acts outbox each leads in
    let records = stored_records outbox in
    let are = sound_records sealer outbox sound in
    let fits = sound_fit sealer outbox sound in
    let progress = after_all (resumed next done 0) happenings in
    let turn = turn_after_all sealer records session shard done (resumed next done 0) happenings (none_stand sealer records session shard done next) true_ in
    let all : progress.carried ≡ sealer.next + length records = omega (arith, whole, sound.number, length-sealed_in outbox, length-records (sealed_in outbox)) in
    let begun = read_none sealer records are fits session shard done progress turn then (first_take_effect sealer records are attempts then tries lead) receipt in
    let has = read_all sealer records are fits session shard done progress turn (record { offset = 0; session = then }) readings stored begun are_readings read in
    let after = after_whole sealer records stored.session (all_accepted sealer records are fits session shard done progress turn stored has at all) in (
      after.0
          ∙ sym (texts_are sealer outbox sound ∙ (ap (λ waiting. texts_of_all records ++ texts_put waiting) none ∙ append-nil (texts_of_all records))),
      ap (λ (demand : Demand). demand.closed) (after.1).is ∙ (ap (λ l. list_any is_close l) (take_all (length records) records (omega arith)) ∙ sym (close_is sealer outbox sound none)),
    )

pub returns : goal.returns
returns c = record {
  at_most_once = λ sealer acts outbox each leads attempts stored tries lead.
      let sound = outbox_sound sealer acts outbox each leads in
      let records = stored_records outbox in
      let are = sound_records sealer outbox sound in
      let prefix = effects_prefix sealer records are stored (first_take_effect sealer records are attempts stored tries lead) in (
        prefix.0 ++ texts_put outbox.waiting,
        texts_are sealer outbox sound
            ∙ (ap (λ l. l ++ texts_put outbox.waiting) prefix.1 ∙ append_assoc stored.effects (prefix.0) (texts_put outbox.waiting)),
      );
  once = λ sealer acts outbox each leads session shard happenings readings stored true_ read lead none whole at.
      let records = stored_records outbox in
      once_by_receipts sealer acts outbox each leads [] (new_session sealer) session shard sealer.next sealer.next happenings readings stored
      (All-nil (IsAttempt sealer records)) refl (omega arith) true_ read lead none whole at;
  receipts = once_by_receipts;
  happens = delivery;
}
