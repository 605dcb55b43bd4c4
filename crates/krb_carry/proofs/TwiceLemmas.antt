-- A receiver that takes all, and whose transaction comes twice.
use Rattle.std.proofs.Common.{◌≡◌, ℕ, List, [], ◌∷◌, refl, sym, ap, ◌∙◌, inl, inr}
use Rattle.std.specs.List.{flat_map}
use Rattle.krb_record.specs.declared.record.Record.{Record}
use Rattle.krb_record.specs.Record.{texts_of}
use Rattle.krb_seal.specs.Sealer.{SealerState}
use Rattle.krb_peers.specs.Attempt.{Attempt, IsAttempt, CanTakeAll}
use Rattle.krb_peers.specs.Texts.{texts_of_all}
use Rattle.krb_peers.specs.ReceiverState.{ReceiverState}
use Rattle.krb_peers.specs.Session.{Sealed}
use Rattle.krb_peers.proofs.AnswerLemmas.{delivered_texts}
use Rattle.krb_peers.proofs.HappenLemmas.{taking_all, is_attempt, all_taken}
use Rattle.krb_carry.specs.Store.{Stored, new_session, applied, Leads}

pub one_receiver : (sealer : SealerState) (records : List Record) (sealed : List Sealed) (receiver : ReceiverState) (nows : List ℕ) → CanTakeAll sealer records sealed receiver nows
    → (attempt : Attempt) × (attempt.receiver ≡ receiver) × IsAttempt sealer records attempt
    × ((stored : Stored) × Leads (new_session sealer) (attempt ∷ attempt ∷ []) stored × (stored.effects ≡ texts_of_all records))
one_receiver sealer records sealed receiver nows can =
    let attempt = taking_all sealer records sealed receiver nows can in
    let once = applied (new_session sealer) attempt in (
      attempt,
      refl,
      is_attempt sealer records sealed receiver nows can,
      (
        once,
        (once, inl (sym can.demand, refl), (once, inr refl, refl)),
        delivered_texts attempt.verdicts ∙ ap (λ rs. flat_map texts_of rs) (all_taken sealer records sealed receiver nows can),
      ),
    )
