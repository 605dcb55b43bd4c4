-- Each run of a session's end is a history of krb_carry.
use Rattle.std.proofs.Common.{◌≡◌, ◌↔◌, ℕ, ◌+◌, ◌<◌, ◌≤◌, ◌==◌, nat_lt, nat_le, ◌&&◌, if◌then◌else◌, Bool, true, false, List, [], ◌∷◌, ◌++◌, refl, sym, ap, subst, ◌∙◌, inl, inr, arith}
use Rattle.std.specs.Prelude.{All, IsTrue, is_some}
use Rattle.std.proofs.lemmas.Bool.{and_from, cases_Bool, eq-eqb, lt-ltb, eqb-true, true≢false}
use Rattle.std.proofs.lemmas.List.Elements.{All-append, All-cons, All-nil, All-head, All-tail}
use Rattle.krb_record.specs.declared.record.Record.{Record}
use Rattle.krb_seal.specs.Sealer.{SealerState}
use Rattle.krb_carry.specs.ProgressState.{ProgressState}
use Rattle.krb_carry.specs.Progress.{Counts, counts, counted, Happening, Store, Publish, Rewind, Confirm, after, after_all, resumed, IsTruthful, StandInTurn}
use Rattle.krb_carry.specs.Laws.{CountedStandInTurn, EachTakesEffectOnceByReceipts}
use Rattle.krb_carry.specs.Shard.{Item}
use Rattle.krb_carry.specs.declared.receipt.Finding.{Finding}
use Rattle.krb_carry.specs.declared.receipt.Finding.TheVariants.{Repeat, Delivered, Older, Forked}
use Rattle.krb_carry.specs.declared.receipt.Receipt.{Receipt}
use Rattle.krb_carry.specs.Receipt.{Finds}
use Rattle.krb_engine.specs.declared.sending.Asks.{Asks}
use Rattle.krb_engine.specs.declared.sending.Command.{Command}
use Rattle.krb_engine.specs.declared.sending.Command.TheVariants as commands
use Rattle.krb_engine.specs.declared.sending.Heard.{Heard}
use Rattle.krb_engine.specs.SendingState.{SendingState}
use Rattle.krb_engine.proofs.NotedLemmas.{of_noted}
use Rattle.krb_engine.specs.Sending.{loaded, sealed, confirmed, with_list, listed, reconnected, settled_progress, settled, found, is_asked, asked, heeded, held, noted, is_lost, lost, looked, published, probed}
use Rattle.krb_engine.specs.Calls.{Hears, Serves}
use Rattle.krb_engine.specs.Laws.{Call, Sealed, Confirmed, Received, Listed, Reconnected, Served, Answers, LeadsSending, HasHappened, IsTrueCall, EachRunIsAHistory, EachListBegins, LoadsGoOn, CarriedStandInTurn, DeliversByTheShard}

after_all-append : (progress : ProgressState) (happenings : List Happening) (it : Happening) → after_all progress (happenings ++ it ∷ []) ≡ after (after_all progress happenings) it
after_all-append progress [] it = refl
after_all-append progress (first ∷ happenings) it = after_all-append (after progress first) happenings it

counts_too : (progress : ProgressState) (number offset : ℕ) → Counts progress number offset → counts progress number offset ≡ true
counts_too progress number offset is =
    and_from ((number == progress.carried) && nat_lt progress.carried progress.next) (nat_lt progress.at offset)
    (and_from (number == progress.carried) (nat_lt progress.carried progress.next) (eq-eqb number progress.carried is.first_one) (lt-ltb progress.carried progress.next is.stored))
    (lt-ltb progress.at offset is.later)

module _ (sealer : SealerState) (records : List Record) (session : ℕ) (shard : List Item) where
  abbrev Has : SendingState → Type 0
  Has state = HasHappened sealer records session shard state

  -- it begins, or begins again, with the first frame that isn't done
  begun : (state : SendingState) (next from at : ℕ) → at ≡ 0 → state.progress ≡ resumed next from at → from ≤ state.done → Has state
  begun state next from at none is done = record {
    next = next;
    from = from;
    happenings = [];
    are_true = All-nil (IsTruthful sealer records session shard);
    progress = is ∙ ap (λ a. resumed next from a) none;
    done = done;
  }

  -- nothing happened that the shard knows of
  same : (old new : SendingState) → new.progress ≡ old.progress → old.done ≤ new.done → Has old → Has new
  same old new progress done has = record {
    next = has.next;
    from = has.from;
    happenings = has.happenings;
    are_true = has.are_true;
    progress = progress ∙ has.progress;
    done = omega (arith, has.done, done);
  }

  -- one thing more happened
  more : (old new : SendingState) (it : Happening) → new.progress ≡ after old.progress it → old.done ≤ new.done → IsTruthful sealer records session shard it → Has old → Has new
  more old new it progress done is has = record {
    next = has.next;
    from = has.from;
    happenings = has.happenings ++ it ∷ [];
    are_true = All-append (IsTruthful sealer records session shard) has.happenings (it ∷ []) has.are_true (All-cons (IsTruthful sealer records session shard) it [] is (All-nil (IsTruthful sealer records session shard)));
    progress = progress ∙ (ap (λ p. after p it) has.progress ∙ sym (after_all-append (resumed has.next has.from 0) has.happenings it));
    done = omega (arith, has.done, done);
  }

  -- ---- each call

  has_listed : (old : SendingState) (list : ℕ) → Has old → Has (listed old list)
  has_listed old list has = by_test (list == old.list)
    where
      by_test : (b : Bool) → Has (if b then old else with_list old list)
      by_test true = has
      by_test false = begun (with_list old list) old.progress.next old.done 0 refl refl (omega arith)

  has_confirmed : (old : SendingState) (number offset now : ℕ) (b : Bool) → (IsTrue b ↔ Counts old.progress number offset) → IsTruthful sealer records session shard (Confirm number offset) → Has old
      → Has (if b then confirmed old offset now else old)
  has_confirmed old number offset now true is truth has =
      let test : counts old.progress number offset ≡ true = counts_too old.progress number offset (is.0 refl) in
      more old (confirmed old offset now) (Confirm number offset) (sym (ap (λ b. if b then counted old.progress offset else old.progress) test)) (omega arith) truth has
  has_confirmed old number offset now false is truth has = has

  has_settled : (old : SendingState) (number now : ℕ) → old.done < number → Has old → Has (settled old number now)
  has_settled old number now lt has = by_test (nat_lt old.progress.carried number) refl
    where
      by_test : (b : Bool) → settled_progress old.progress number ≡ (if b then resumed old.progress.next number 0 else old.progress) → Has (settled old number now)
      by_test true is = begun (settled old number now) old.progress.next number 0 refl is (omega arith)
      by_test false is = same old (settled old number now) is (omega (arith, lt)) has

  has_found : (old : SendingState) (own : List ℕ) (receipt : Receipt) (now : ℕ) (finding : Finding) → Finds old.done old.progress.next own receipt finding → Has old → Has (found old receipt.number now finding)
  has_found old own receipt now Repeat finds has = has
  has_found old own receipt now Delivered finds has = has_settled old receipt.number now finds.0 has
  has_found old own receipt now Older finds has = more old (found old receipt.number now Older) Rewind refl (omega arith) tt has
  has_found old own receipt now Forked finds has = more old (found old receipt.number now Forked) Rewind refl (omega arith) tt has

  has_heeded : (old : SendingState) (number : ℕ) (it : Asks) (now : ℕ) → Has old → Has (heeded old number it now)
  has_heeded old number it now has = by_test (is_asked old number it now)
    where
      by_test : (b : Bool) → Has (if b then asked old it now else noted old number it)
      by_test true = begun (asked old it now) old.progress.next old.done 0 refl refl (omega arith)
      by_test false = of_noted Has old number it has (same old (held old) refl (omega arith) has)

  has_looked : (old : SendingState) (now : ℕ) → Has old → Has (looked old now)
  has_looked old now has = by_test (is_lost old now)
    where
      by_test : (b : Bool) → Has (if b then lost old now else old)
      by_test true = more old (lost old now) Rewind refl (omega arith) tt has
      by_test false = has

  has_served : (old : SendingState) (room now : ℕ) (command : Command) (new : SendingState) → Serves old room now command new → Has old → Has new
  has_served old room now (commands.Publish from count) new serves has =
      subst Has (sym serves.5) (more old (published old count now) (Publish count) refl (omega arith) tt has)
  has_served old room now (commands.Probe number opening) new serves has =
      subst Has (sym serves.4) (same old (probed old now) refl (omega arith) has)
  has_served old room now (commands.Wake at) new serves has = subst Has (sym serves.4) has
  has_served old room now commands.Idle new serves has = subst Has (sym serves.1) has

  has_heard : (old : SendingState) (own : List ℕ) (receipt : Receipt) (it : Asks) (now : ℕ) (heard : Heard) (new : SendingState) → Hears old own receipt it now heard new → Has old → Has new
  has_heard old own receipt it now heard new (inl stopped) has = subst Has (sym stopped.2) has
  has_heard old own receipt it now heard new (inr hears) has =
      let finding = (hears.1).0 in
      let rest = (hears.1).1 in
      subst Has (sym ((hears.1).3)) (has_heeded (found old receipt.number now finding) receipt.number it now (has_found old own receipt now finding rest has))

  has_answered : (old : SendingState) (call : Call) (new : SendingState) → Answers old call new → IsTrueCall sealer records session shard call → Has old → Has new
  has_answered old (Sealed count) new is truth has = subst Has (sym is) (more old (sealed old count) (Store count) refl (omega arith) tt has)
  has_answered old (Confirmed number offset now) new is truth has = subst Has (sym is.2) (has_confirmed old number offset now is.0 is.1 truth has)
  has_answered old (Received own receipt it now) new is truth has = has_heard old own receipt it now is.0 new is.1 has
  has_answered old (Listed list) new is truth has = subst Has (sym is) (has_listed old list has)
  has_answered old Reconnected new is truth has = subst Has (sym is) (more old (reconnected old) Rewind refl (omega arith) tt has)
  has_answered old (Served room now) new is truth has = has_served (looked old now) room now is.0 new is.1 (has_looked old now has)

pub each_run : EachRunIsAHistory
each_run sealer records session shard old [] new has truths leads = subst (HasHappened sealer records session shard) (sym leads) has
each_run sealer records session shard old (call ∷ calls) new has truths leads =
    let is = IsTrueCall sealer records session shard in
    each_run sealer records session shard leads.0 calls new
    (has_answered sealer records session shard old call leads.0 leads.1 (All-head is call calls truths) has)
    (All-tail is call calls truths) leads.2

pub each_list : EachListBegins
each_list sealer records session shard old list other = by_test (list == old.list) refl
  where
    by_test : (b : Bool) → (list == old.list) ≡ b → HasHappened sealer records session shard (if b then old else with_list old list)
    by_test true is = absurd (other (eqb-true list old.list is))
    by_test false is = begun sealer records session shard (with_list old list) old.progress.next old.done 0 refl refl (omega arith)

pub loads_go_on : LoadsGoOn
loads_go_on sealer records session shard old count list now has =
    let stored = sealed old count in
    let at_rest = record stored { progress = after stored.progress Rewind } in
    let state = loaded (old.progress.next + count) old.progress.carried old.progress.at old.done list now in
    same sealer records session shard at_rest state refl (omega arith)
    (more sealer records session shard stored at_rest Rewind refl (omega arith) tt
    (more sealer records session shard old stored (Store count) refl (omega arith) tt has))

-- ---- what krb_carry says of it

fewer : (sealer : SealerState) (records : List Record) (session : ℕ) (shard : List Item) (from done : ℕ) (progress : ProgressState) → from ≤ done → StandInTurn sealer records session shard from progress
    → StandInTurn sealer records session shard done progress
fewer sealer records session shard from done progress le turn = record {
  place = turn.place;
  stands = λ k counted. turn.stands k (omega (arith, counted.0), counted.1);
  rises = λ k counted next. turn.rises k (omega (arith, counted.0), counted.1) (omega (arith, next.0), next.1);
  within = λ k counted. turn.within k (omega (arith, counted.0), counted.1);
}

pub stand_in_turn : CountedStandInTurn → CarriedStandInTurn
stand_in_turn stand sealer records session shard state has =
    fewer sealer records session shard has.from state.done state.progress has.done
    (subst (λ p. StandInTurn sealer records session shard has.from p) (sym has.progress) (stand sealer records session shard has.next has.from has.happenings has.are_true))

pub delivers_by_the_shard : EachTakesEffectOnceByReceipts → DeliversByTheShard
delivers_by_the_shard once sealer acts outbox each leads session shard state it attempts before readings stored tries lead receipt read reads none whole past =
    (once sealer acts outbox each leads attempts before session shard it.next it.from it.happenings readings stored tries lead receipt it.are_true read reads none
    (sym (ap (λ (p : ProgressState). p.carried) it.progress) ∙ whole)
    (omega (arith, ap (λ (p : ProgressState). p.at) it.progress, past))).0
