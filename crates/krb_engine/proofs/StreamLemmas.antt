-- Texts of a stream take effect in order, over all its sessions.
use Rattle.std.proofs.Common.{◌≡◌, ℕ, ◌+◌, ◌≤◌, ◌==◌, ◌&&◌, nat_le, not, if◌then◌else◌, Bool, true, false, Option, Some, None, List, [], ◌∷◌, ◌++◌, length, map, take, refl, sym, ap, ap₂, subst, ◌∙◌, inl, inr, arith, append_assoc, append-nil}
use Rattle.std.specs.Prelude.{All}
use Rattle.std.specs.List.{flat_map, list_any}
use Rattle.std.specs.Str.{bytes_eq}
use Rattle.std.proofs.lemmas.Bool.{and_parts, eq-eqb, eqb-true, true≢false}
use Rattle.krb_carry.specs.HistoryLaws.{OneHistory}
use Rattle.std.proofs.lemmas.List.Elements.{All-head, All-tail}
use Rattle.std.proofs.lemmas.Slice.Eq.{bytes_eq-Decides}
use Rattle.krb_record.specs.declared.record.Record.{Record}
use Rattle.krb_record.specs.declared.record.Record.TheVariants.{Text, Batch, Close}
use Rattle.krb_record.specs.Record.{is_close}
use Rattle.krb_seal.specs.Sealer.{SealerState}
use Rattle.krb_peers.specs.Demand.{Demand}
use Rattle.krb_peers.specs.Texts.{texts_of_all}
use Rattle.krb_peers.proofs.FrameLemmas.{closed_whole}
use Rattle.krb_carry.specs.Outbox.{Put, puts_of, puts_in, records_in, Outbox, sealed_in, stored_records, texts_put}
use Rattle.krb_carry.specs.Store.{Stored, new_session, Leads, IsReceipt}
use Rattle.krb_carry.specs.Laws.{EachTakesEffectAtMostOnce}
use Rattle.krb_carry.proofs.OutboxLemmas.{IsLast, IsSound, outbox_sound, sound_records, texts_are}
use Rattle.krb_carry.proofs.StoreLemmas.{first_take_effect, whole_where_closed}
use Rattle.krb_engine.specs.declared.stream.Head.{Head}
use Rattle.krb_engine.specs.declared.stream.Opening.{Opening}
use Rattle.krb_engine.specs.declared.stream.Judged.{Judged}
use Rattle.krb_engine.specs.declared.stream.Judged.TheVariants.{Begins, Later, Forked}
use Rattle.krb_engine.specs.StreamLaws.{BeginsAfterTheClose, FirstOneBegins, OwnHistoryGoesOn, Session, IsSession, IsUntried, BeginInTurn, effects_of, texts_of, StreamsTakeEffectInOrder, WholeStreamsTakeEffect}
use Rattle.krb_engine.proofs.ReceiptLemmas.{all_took_effect}

-- ---- openings

begins_by : (a b c d : Bool) → (if a then Forked else (if not b then Later else (if not c then Later else (if d then Begins else Forked)))) ≡ Begins → (b ≡ true) × (c ≡ true) × (d ≡ true)
begins_by true b c d is = absurd (let e : Forked ≡ Begins = is in cc)
begins_by false false c d is = absurd (let e : Later ≡ Begins = is in cc)
begins_by false true false d is = absurd (let e : Later ≡ Begins = is in cc)
begins_by false true true false is = absurd (let e : Forked ≡ Begins = is in cc)
begins_by false true true true is = (refl, refl, refl)

pub begins_after_the_close : BeginsAfterTheClose
begins_after_the_close head opening is =
    let by = begins_by (nat_le opening.turn head.turn) (opening.turn == head.turn + 1) head.closed ((opening.before.number == head.took.number) && bytes_eq opening.before.history head.took.history) is in
    let same = and_parts (opening.before.number == head.took.number) (bytes_eq opening.before.history head.took.history) by.2 in
    (by.1, eqb-true opening.turn (head.turn + 1) by.0, eqb-true opening.before.number head.took.number same.0, (bytes_eq-Decides opening.before.history head.took.history).0 same.1)

first_by : (b : Bool) → (if b then Begins else Later) ≡ Begins → b ≡ true
first_by true is = refl
first_by false is = absurd (let e : Later ≡ Begins = is in cc)

pub first_one_begins : FirstOneBegins
first_one_begins opening =
    (λ is. eqb-true opening.turn 1 (first_by (opening.turn == 1) is), λ is. ap (λ b. if b then Begins else Later) (eq-eqb opening.turn 1 is))

pub own_history_goes_on : OneHistory → OwnHistoryGoesOn
own_history_goes_on alike first own took head opening of_took of_own is =
    let begins = begins_after_the_close head opening is in
    let as_many : length own ≡ length took = omega (arith, of_took.number, of_own.number, begins.2) in
    alike own took as_many (sym of_own.history ∙ (begins.3 ∙ of_took.history))

-- ---- nothing waits where the close was sealed

-- a close among records is put in somewhere
close_in : (records : List Record) → list_any is_close records ≡ true → (front : List Put) × ((back : List Put) × (flat_map puts_of records ≡ front ++ None ∷ back))
close_in [] is = absurd (true≢false (sym is))
close_in (Close ∷ records) is = ([], (flat_map puts_of records, refl))
close_in (Text text ∷ records) is = (let rest = close_in records is in (Some text ∷ rest.0, ((rest.1).0, ap (λ l. Some text ∷ l) (rest.1).1)))
close_in (Batch texts ∷ records) is =
    let rest = close_in records is in (
      map Some texts ++ rest.0,
      ((rest.1).0, ap (λ l. map Some texts ++ l) (rest.1).1 ∙ sym (append_assoc (map Some texts) rest.0 (None ∷ (rest.1).0))),
    )

none_left : {X : Type 0} (xs ys : List X) → xs ++ ys ≡ [] → ys ≡ []
none_left [] ys is = is
none_left (x ∷ xs) ys is = absurd (let e : x ∷ (xs ++ ys) ≡ [] = is in cc)

none_waits : (sealer : SealerState) (outbox : Outbox) → IsSound sealer outbox → list_any is_close (stored_records outbox) ≡ true → outbox.waiting ≡ []
none_waits sealer outbox sound closed =
    let there = close_in (stored_records outbox) closed in
    let back = (there.1).0 in
    let split : outbox.inserted ≡ there.0 ++ None ∷ (back ++ outbox.waiting) =
    sound.puts ∙ (ap (λ l. l ++ outbox.waiting) (there.1).1 ∙ append_assoc there.0 (None ∷ back) outbox.waiting) in
    none_left back outbox.waiting (sound.last there.0 (back ++ outbox.waiting) split)

-- ---- one session

-- all that was put in took effect, if its close did
closed_all : (it : Session) → IsSession it → it.stored.demand.closed ≡ true → it.stored.effects ≡ texts_put it.outbox.inserted
closed_all it is closed =
    let sound = outbox_sound it.sealer it.acts it.outbox is.are_acts is.leads in
    let records = stored_records it.outbox in
    let are = sound_records it.sealer it.outbox sound in
    let first = first_take_effect it.sealer records are it.attempts it.stored is.are_attempts is.took in
    let there : list_any is_close (take first.0 records) ≡ true = ap (λ (d : Demand). d.closed) (sym ((first.1).demands).is) ∙ closed in
    let among : list_any is_close records ≡ true = subst (λ l. list_any is_close l ≡ true) (closed_whole records are.close_last first.0 there) there in
    let none = none_waits it.sealer it.outbox sound among in
    whole_where_closed it.sealer records are it.stored first closed
    ∙ sym (texts_are it.sealer it.outbox sound ∙ (ap (λ waiting. texts_of_all records ++ texts_put waiting) none ∙ append-nil (texts_of_all records)))

-- nothing took effect of one that no receiver tried
untried_none : (it : Session) → IsSession it → IsUntried it → it.stored.effects ≡ []
untried_none it is untried = ap (λ (s : Stored). s.effects) (subst (λ l. Leads (new_session it.sealer) l it.stored) untried is.took)

all_untried_none : (sessions : List Session) → All IsSession sessions → All IsUntried sessions → effects_of sessions ≡ []
all_untried_none [] are untried = refl
all_untried_none (it ∷ sessions) are untried =
    ap (λ l. l ++ effects_of sessions) (untried_none it (All-head IsSession it sessions are) (All-head IsUntried it sessions untried))
    ∙ all_untried_none sessions (All-tail IsSession it sessions are) (All-tail IsUntried it sessions untried)

-- ---- all of them

pub in_order : EachTakesEffectAtMostOnce → StreamsTakeEffectInOrder
in_order once [] are turns = ([], refl)
in_order once (it ∷ sessions) are (inl closed, turns) =
    let is = All-head IsSession it sessions are in
    let rest = in_order once sessions (All-tail IsSession it sessions are) turns in (
      rest.0,
      ap₂ (λ xs ys. xs ++ ys) (sym (closed_all it is closed)) rest.1 ∙ sym (append_assoc it.stored.effects (effects_of sessions) rest.0),
    )
in_order once (it ∷ sessions) are (inr untried, turns) =
    let is = All-head IsSession it sessions are in
    let prefix = once it.sealer it.acts it.outbox is.are_acts is.leads it.attempts it.stored is.are_attempts is.took in
    let none = all_untried_none sessions (All-tail IsSession it sessions are) untried in (
      prefix.0 ++ texts_of sessions,
      ap (λ l. l ++ texts_of sessions) prefix.1
          ∙ (append_assoc it.stored.effects prefix.0 (texts_of sessions)
          ∙ ap (λ l. l ++ (prefix.0 ++ texts_of sessions)) (sym (append-nil it.stored.effects) ∙ ap (λ l. it.stored.effects ++ l) (sym none))),
    )

abbrev IsDone : Session → Type 0
IsDone it = (it.outbox.waiting ≡ []) × IsReceipt it.stored it.outbox.next

pub whole_streams : WholeStreamsTakeEffect
whole_streams [] are done = refl
whole_streams (it ∷ sessions) are done =
    let is = All-head IsSession it sessions are in
    let its = All-head IsDone it sessions done in
    ap₂ (λ xs ys. xs ++ ys)
    (all_took_effect it.sealer it.acts it.outbox is.are_acts is.leads it.attempts it.stored is.are_attempts is.took its.1 its.0)
    (whole_streams sessions (All-tail IsSession it sessions are) (All-tail IsDone it sessions done))
