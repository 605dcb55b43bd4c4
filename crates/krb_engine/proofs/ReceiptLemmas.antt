-- What a session's end takes for done took effect.
use Rattle.std.proofs.Common.{◌≡◌, ◌≢◌, ℕ, ◌+◌, ◌<◌, ◌≤◌, if◌then◌else◌, nat_lt, Bool, true, false, List, [], ◌∷◌, ◌++◌, length, take, slice_get, Some, refl, sym, ap, subst, ◌∙◌, ◌⊎◌, inl, inr, arith, append-nil}
use Rattle.std.specs.Prelude.{All, is_some}
use Rattle.std.proofs.lemmas.List.{take_all}
use Rattle.krb_record.specs.declared.record.Record.{Record}
use Rattle.krb_seal.specs.Sealer.{SealerState}
use Rattle.krb_peers.specs.Attempt.{Attempt, IsAttempt}
use Rattle.krb_peers.specs.Demand.{Demand}
use Rattle.krb_peers.specs.Session.{frames_in}
use Rattle.krb_peers.specs.Texts.{texts_of_all}
use Rattle.krb_peers.specs.Order.{first_demand, demand_after}
use Rattle.krb_carry.specs.ProgressState.{ProgressState}
use Rattle.krb_carry.specs.Progress.{resumed}
use Rattle.krb_carry.specs.Outbox.{Outbox, new_outbox, Act, IsAct, LeadsOutbox, Sealing, with_frames, sealed_in, stored_records, texts_put}
use Rattle.krb_carry.specs.Store.{Stored, new_session, Leads, IsAfter, IsReceipt}
use Rattle.krb_carry.proofs.OutboxLemmas.{outbox_sound, sound_records, length-sealed_in, length-records, texts_are}
use Rattle.krb_carry.proofs.StoreLemmas.{first_take_effect, number_is}
use Rattle.krb_carry.specs.declared.receipt.Finding.{Finding}
use Rattle.krb_carry.specs.declared.receipt.Finding.TheVariants.{Repeat, Delivered, Older, Forked}
use Rattle.krb_carry.specs.declared.receipt.Receipt.{Receipt}
use Rattle.krb_carry.specs.Receipt.{history_below, Finds}
use Rattle.krb_carry.specs.Copies.{Copy, own_frames, stopped, World, new_world, with_state, after_finding, Event, Hears as CopyHears, Steps as CopySteps, LeadsCopies}
use Rattle.krb_carry.specs.CopiesLaws.{AreItsOwn, DeliveredTookEffect}
use Rattle.krb_carry.proofs.CopyLemmas.{all_at, slice_get-set}
use Rattle.krb_carry.specs.HistoryLaws.{Collision}
use Rattle.krb_engine.specs.declared.sending.Asks.{Asks}
use Rattle.krb_engine.specs.declared.sending.Heard.{Heard}
use Rattle.krb_engine.specs.SendingState.{SendingState}
use Rattle.krb_engine.specs.Sending.{sealed, settled_progress, settled, found, is_asked, asked, heeded, noted}
use Rattle.krb_engine.proofs.NotedLemmas.{of_noted}
use Rattle.krb_engine.specs.Calls.{Hears}
use Rattle.krb_engine.specs.Laws.{IsEndOf, copy_of, HearsAsACopy, DeletedTookEffect, SealsOneAfterAnother, DeliversByReceipts}

-- ---- all is done

-- all took effect, where a receipt for all that is sealed is true, and nothing waits
pub all_took_effect : (sealer : SealerState) (acts : List Act) (outbox : Outbox) → All (IsAct sealer) acts → LeadsOutbox (new_outbox sealer) acts outbox → (attempts : List Attempt) (stored : Stored)
    → All (IsAttempt sealer (stored_records outbox)) attempts → Leads (new_session sealer) attempts stored → IsReceipt stored outbox.next → outbox.waiting ≡ [] → stored.effects ≡ texts_put outbox.inserted
all_took_effect sealer acts outbox each leads attempts stored tries lead receipt none =
    let sound = outbox_sound sealer acts outbox each leads in
    let records = stored_records outbox in
    let are = sound_records sealer outbox sound in
    let first = first_take_effect sealer records are attempts stored tries lead in
    let all : length records ≤ first.0 =
    omega (arith, number_is sealer records are first.0 stored first.1, receipt, sound.number, length-sealed_in outbox, length-records (sealed_in outbox)) in
    (first.1).effects
    ∙ (ap (λ l. texts_of_all l) (take_all first.0 records all)
    ∙ sym (texts_are sealer outbox sound ∙ (ap (λ waiting. texts_of_all records ++ texts_put waiting) none ∙ append-nil (texts_of_all records))))

pub delivers_by_receipts : DeliversByReceipts
delivers_by_receipts sealer acts outbox each leads state attempts stored tries lead receipt none done =
    all_took_effect sealer acts outbox each leads attempts stored tries lead (omega (arith, receipt, done)) none

-- ---- a copy

-- only what krb_carry' finding is changes what is done, and whether it is stopped
heeded_done : (old : SendingState) (number : ℕ) (it : Asks) (now : ℕ) → (heeded old number it now).done ≡ old.done
heeded_done old number it now = by_test (is_asked old number it now)
  where
    by_test : (b : Bool) → (if b then asked old it now else noted old number it).done ≡ old.done
    by_test true = refl
    by_test false = of_noted (λ s. s.done ≡ old.done) old number it refl refl

heeded_next : (old : SendingState) (number : ℕ) (it : Asks) (now : ℕ) → (heeded old number it now).progress.next ≡ old.progress.next
heeded_next old number it now = by_test (is_asked old number it now)
  where
    by_test : (b : Bool) → (if b then asked old it now else noted old number it).progress.next ≡ old.progress.next
    by_test true = refl
    by_test false = of_noted (λ s. s.progress.next ≡ old.progress.next) old number it refl refl

heeded_ended : (old : SendingState) (number : ℕ) (it : Asks) (now : ℕ) → is_some (heeded old number it now).ended ≡ is_some old.ended
heeded_ended old number it now = by_test (is_asked old number it now)
  where
    by_test : (b : Bool) → is_some (if b then asked old it now else noted old number it).ended ≡ is_some old.ended
    by_test true = refl
    by_test false = of_noted (λ s. is_some s.ended ≡ is_some old.ended) old number it refl refl

settled_next : (progress : ProgressState) (number : ℕ) → (settled_progress progress number).next ≡ progress.next
settled_next progress number = by_test (nat_lt progress.carried number)
  where
    by_test : (b : Bool) → (if b then resumed progress.next number 0 else progress).next ≡ progress.next
    by_test true = refl
    by_test false = refl

found_next : (old : SendingState) (number now : ℕ) (finding : Finding) → (found old number now finding).progress.next ≡ old.progress.next
found_next old number now Repeat = refl
found_next old number now Delivered = settled_next old.progress number
found_next old number now Older = refl
found_next old number now Forked = refl

-- the copy that it is the end of
same_copy : (copy : Copy) (outbox : Outbox) (done : ℕ) (is_stopped : Bool) → outbox ≡ copy.outbox → done ≡ copy.done → is_stopped ≡ copy.is_stopped
    → (let it : Copy = record { outbox = outbox; done = done; is_stopped = is_stopped } in it) ≡ copy
same_copy copy outbox done is_stopped a b c =
    ap (λ (o : Outbox). let it : Copy = record { outbox = o; done = done; is_stopped = is_stopped } in it) a
    ∙ (ap (λ (d : ℕ). let it : Copy = record { outbox = copy.outbox; done = d; is_stopped = is_stopped } in it) b
    ∙ ap (λ (s : Bool). let it : Copy = record { outbox = copy.outbox; done = copy.done; is_stopped = s } in it) c)

found_copy : (copy : Copy) (old : SendingState) (number now : ℕ) (finding : Finding) → IsEndOf copy old → copy.is_stopped ≡ false
    → copy_of copy.outbox (found old number now finding) ≡ after_finding copy number finding
found_copy copy old number now Repeat is goes_on = same_copy copy copy.outbox old.done (is_some old.ended) refl is.done is.is_stopped
found_copy copy old number now Delivered is goes_on = same_copy (record copy { done = number }) copy.outbox number (is_some old.ended) refl refl is.is_stopped
found_copy copy old number now Older is goes_on = same_copy (stopped copy) copy.outbox old.done true refl is.done refl
found_copy copy old number now Forked is goes_on = same_copy (stopped copy) copy.outbox old.done true refl is.done refl

heard_copy : (copy : Copy) (old : SendingState) (number : ℕ) (it : Asks) (now : ℕ) (finding : Finding) → IsEndOf copy old → copy.is_stopped ≡ false
    → copy_of copy.outbox (heeded (found old number now finding) number it now) ≡ after_finding copy number finding
heard_copy copy old number it now finding is goes_on =
    let between = found old number now finding in
    same_copy (copy_of copy.outbox between) copy.outbox (heeded between number it now).done (is_some (heeded between number it now).ended) refl (heeded_done between number it now) (heeded_ended between number it now)
    ∙ found_copy copy old number now finding is goes_on

pub hears_as_a_copy : HearsAsACopy
hears_as_a_copy sealer world place copy old receipt it now heard new there is goes_on truth (inl stops) =
    absurd (let wrong : false ≡ true = sym goes_on ∙ (sym is.is_stopped ∙ stops.0) in cc)
hears_as_a_copy sealer world place copy old receipt it now heard new there is goes_on truth (inr hears) =
    let finding = (hears.1).0 in
    let finds = (hears.1).1 in
    let new_is = (hears.1).3 in
    let own = history_below sealer.next (own_frames copy) receipt.number in
    let after : copy_of copy.outbox new ≡ after_finding copy receipt.number finding = ap (λ (s : SendingState). copy_of copy.outbox s) new_is ∙ heard_copy copy old receipt.number it now finding is goes_on in
    let next : new.progress.next ≡ copy.outbox.next = ap (λ (s : SendingState). s.progress.next) new_is ∙ (heeded_next (found old receipt.number now finding) receipt.number it now ∙ (found_next old receipt.number now finding ∙ is.next)) in (
      (
        copy,
        there,
        goes_on,
        truth,
        (
          finding,
          subst (λ n. Finds copy.done n own receipt finding) is.next (subst (λ d. Finds d old.progress.next own receipt finding) is.done finds),
          ap (λ c. with_state world place c) after,
        ),
      ),
      record { next = next; done = refl; is_stopped = refl },
    )

leads_one_more : (sealer : SealerState) (old : World) (events : List Event) (between : World) (event : Event) (new : World) → LeadsCopies sealer old events between → CopySteps sealer between event new
    → LeadsCopies sealer old (events ++ event ∷ []) new
leads_one_more sealer old [] between event new same steps = (new, subst (λ w. CopySteps sealer w event new) same steps, refl)
leads_one_more sealer old (first ∷ events) between event new leads steps = (leads.0, leads.1, leads_one_more sealer (leads.0) events between event new leads.2 steps)

pub deleted_took_effect : DeliveredTookEffect → DeletedTookEffect
deleted_took_effect delivered sealer events world place copy old receipt it now heard new led there is goes_on truth hears =
    let after = with_state world place (copy_of copy.outbox new) in
    let steps = hears_as_a_copy sealer world place copy old receipt it now heard new there is goes_on truth hears in
    let leads = leads_one_more sealer (new_world sealer) events world (CopyHears place receipt) after led steps.0 in
    all_at (λ (its : Copy). (its.done ≤ sealer.next + length after.took) × (AreItsOwn sealer after its its.done ⊎ Collision)) after.copies place (copy_of copy.outbox new)
    (delivered sealer (events ++ CopyHears place receipt ∷ []) after leads)
    (slice_get-set world.copies place copy (copy_of copy.outbox new) there)

pub seals_one_after_another : SealsOneAfterAnother
seals_one_after_another copy old sealing outbox is (inl took) from =
    let new = took.1 in
    let next : outbox.next ≡ sealing.from + length sealing.sealed = ap (λ (o : Outbox). o.next) new.2 in
    inr (record { next = omega (arith, next, from); done = is.done; is_stopped = is.is_stopped })
seals_one_after_another copy old sealing outbox is (inr same) from = inl same
