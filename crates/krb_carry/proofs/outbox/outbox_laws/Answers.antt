use Rattle.std.proofs.Common.{refl}
use Rattle.krb_carry.proofs.OutboxLemmas.{outbox_sound, sound_records, sound_fit, sound_sealed, texts_are, one_frame}
use Rattle.krb_carry.proofs.outbox.outbox_laws.Goals as goal

pub returns : goal.returns
returns c = record {
  sealed = λ sealer acts outbox each leads.
      let sound = outbox_sound sealer acts outbox each leads in
      (sound_records sealer outbox sound, sound_fit sealer outbox sound, sound_sealed sealer outbox sound, sound.frames, sound.number);
  texts = λ sealer acts outbox each leads. texts_are sealer outbox (outbox_sound sealer acts outbox each leads);
  one = λ sealer before old after new number frame other each leads them lead may might. one_frame sealer before old after new number frame other each leads them lead may might;
  blind = λ sealer one other. (
    record { place = 0; kept = record { number = sealer.next; it = one }; there = refl; number_is = refl; frame_is = refl },
    record { place = 1; kept = record { number = sealer.next; it = other }; there = refl; number_is = refl; frame_is = refl },
  );
}
