-- What transactions leave of the tables of an outbox.
use Rattle.std.proofs.Common.{◌≡◌, ◌⊎◌, ℕ, zero, suc, ◌+◌, ◌==◌, ◌&&◌, ◌||◌, cond, nat_lt, Bool, true, false, List, [], ◌∷◌, ◌++◌, length, map, slice_get, Option, Some, None, refl, sym, ap, ap₂, subst, ◌∙◌, inl, inr, arith}
use Rattle.std.specs.Prelude.{All, is_none, option_and_then}
use Rattle.std.proofs.lemmas.Bool.{eq-eqb, ne_eqb, eqb-true, and_parts, cases_eq}
use Rattle.std.proofs.lemmas.List.Elements.{All-nil, All-cons}
use Rattle.krb_seal.specs.Sealer.{SealerState}
use Rattle.krb_peers.specs.Session.{Sealed}
use Rattle.krb_carry.specs.Outbox.{Put, has_close_put, Kept, numbered, Outbox, new_outbox, MayLeave, Sealing, Act, Insert, Seal, IsAct, with_put, with_frames, Acts, LeadsOutbox}
use Rattle.krb_carry.proofs.OutboxLemmas.{slice_get-append, one_frame}
use Rattle.krb_laws.specs.Database.{Table, with_row, insert, executed, CommitAnswer, Ends}
use Rattle.krb_laws.specs.OutboxTables.{TextRow, OutboxTables, empty_tables, insert_text, FrameRow, with_frame, add_frame, Run, without, without_all, drop_texts, Next, set_next, on_next, Carried, drop_frames, Sent, sending, waiting_of, next_in, Holds, nexts_of, Adds, Seals, SealsNone, Deed, Puts, Sends, statements_of, IsDeed, LeadsDeeds}
use Rattle.krb_laws.proofs.DatabaseLemmas.{mapped, chained, guarded, at_key, at_other, changed_row, executed_parts, ended}

-- ---- frames

chosen : {A : Type 0} (b : Bool) (f g : A) (o : Option A) → cond b (Some f) o ≡ Some g → ((b ≡ true) × (f ≡ g)) ⊎ (o ≡ Some g)
chosen true f g o is = inl (refl, (let e : Some f ≡ Some g = is in cc))
chosen false f g o is = inr is

was_none : {A : Type 0} (row : A) (o : Option A) (new : A) → insert row o ≡ Some new → row ≡ new
was_none row None new is = (let e : Some row ≡ Some new = is in cc)
was_none row (Some old) new is = absurd (let e : ◌≡◌ {A = Option _} None (Some new) = is in cc)

record FramesAdded (rows : List FrameRow) (old new : OutboxTables) : Type 0 where
  pub texts : new.texts ≡ old.texts
  pub closed : new.closed ≡ old.closed
  pub next : new.next ≡ old.next
  pub frames : (session number : ℕ) (frame : List ℕ) → new.frames session number ≡ Some frame → (old.frames session number ≡ Some frame) ⊎ Adds rows session number frame

frames_added : (rows : List FrameRow) (old new : OutboxTables) → executed (map add_frame rows) old ≡ Some new → FramesAdded rows old new
frames_added [] old new is =
    let same : old ≡ new = (let e : Some old ≡ Some new = is in cc) in
    record {
      texts = ap (λ (t : OutboxTables). t.texts) (sym same);
      closed = ap (λ (t : OutboxTables). t.closed) (sym same);
      next = ap (λ (t : OutboxTables). t.next) (sym same);
      frames = λ session number frame at. inl (ap (λ (t : OutboxTables). t.frames session number) same ∙ at);
    }
frames_added (row ∷ rows) old new is =
    let one = chained (executed (map add_frame rows)) (add_frame row old) new is in
    let between = one.0 in
    let put = mapped (λ frame. let t : OutboxTables = record old { frames = with_frame old.frames row frame } in t) (insert row.frame (old.frames row.session row.number)) between one.1 in
    let mine = was_none row.frame (old.frames row.session row.number) (put.0) put.1 in
    let rest = frames_added rows between new one.2 in
    record {
      texts = rest.texts ∙ ap (λ (t : OutboxTables). t.texts) (sym put.2);
      closed = rest.closed ∙ ap (λ (t : OutboxTables). t.closed) (sym put.2);
      next = rest.next ∙ ap (λ (t : OutboxTables). t.next) (sym put.2);
      frames = λ session number frame at. elim (rest.frames session number frame at) [
        | inl there ↦ elim (chosen ((session == row.session) && (number == row.number)) (put.0) frame (old.frames session number) (ap (λ (t : OutboxTables). t.frames session number) put.2 ∙ there)) [
          | inl this ↦
              let parts = and_parts (session == row.session) (number == row.number) this.0 in
              inr (inl (eqb-true session row.session parts.0, eqb-true number row.number parts.1, mine ∙ this.1))
          | inr before ↦ inl before
        ]
        | inr adds ↦ inr (inr adds)
      ];
    }

-- ---- texts

texts_dropped : (runs : List Run) (old : OutboxTables) → executed (map drop_texts runs) old ≡ Some (record old { texts = without_all runs old.texts })
texts_dropped [] old = refl
texts_dropped (run ∷ runs) old = texts_dropped runs (record old { texts = without run old.texts })

-- ---- frames that are carried

record FramesDropped (old new : OutboxTables) : Type 0 where
  pub texts : new.texts ≡ old.texts
  pub closed : new.closed ≡ old.closed
  pub next : new.next ≡ old.next
  pub frames : (session number : ℕ) (frame : List ℕ) → new.frames session number ≡ Some frame → old.frames session number ≡ Some frame

stays_there : {A : Type 0} (b : Bool) (o : Option A) (x : A) → cond b None o ≡ Some x → o ≡ Some x
stays_there true o x is = absurd (let e : ◌≡◌ {A = Option _} None (Some x) = is in cc)
stays_there false o x is = is

frames_dropped : (carried : List Carried) (old new : OutboxTables) → executed (map drop_frames carried) old ≡ Some new → FramesDropped old new
frames_dropped [] old new is =
    let same : old ≡ new = (let e : Some old ≡ Some new = is in cc) in
    record {
      texts = ap (λ (t : OutboxTables). t.texts) (sym same);
      closed = ap (λ (t : OutboxTables). t.closed) (sym same);
      next = ap (λ (t : OutboxTables). t.next) (sym same);
      frames = λ session number frame at. ap (λ (t : OutboxTables). t.frames session number) same ∙ at;
    }
frames_dropped (it ∷ carried) old new is =
    let one = chained (executed (map drop_frames carried)) (drop_frames it old) new is in
    let then : OutboxTables = record old { frames = λ (session number : ℕ). cond ((session == it.session) && nat_lt number it.done) None (old.frames session number) } in
    let put : then ≡ one.0 = (let e : Some then ≡ Some (one.0) = one.1 in cc) in
    let rest = frames_dropped carried (one.0) new one.2 in
    record {
      texts = rest.texts ∙ ap (λ (t : OutboxTables). t.texts) (sym put);
      closed = rest.closed ∙ ap (λ (t : OutboxTables). t.closed) (sym put);
      next = rest.next ∙ ap (λ (t : OutboxTables). t.next) (sym put);
      frames = λ session number frame at. stays_there ((session == it.session) && nat_lt number it.done) (old.frames session number) frame (ap (λ (t : OutboxTables). t.frames session number) put ∙ rest.frames session number frame at);
    }

-- ---- the next number

abbrev next_writes : Next → Option ℕ → Option ℕ
next_writes it row = (set_next it).writes row

abbrev steps : List Next → Option ℕ → Option (Option ℕ)
steps [] row = Some row
steps (it ∷ nexts) row = option_and_then (λ (new : ℕ). steps nexts (Some new)) (next_writes it row)

record NextsSet (session : ℕ) (nexts : List Next) (old new : OutboxTables) : Type 0 where
  pub texts : new.texts ≡ old.texts
  pub closed : new.closed ≡ old.closed
  pub frames : new.frames ≡ old.frames
  pub row : steps (nexts_of session nexts) (old.next session) ≡ Some (new.next session)

nexts_set : (session : ℕ) (nexts : List Next) (old new : OutboxTables) → executed (map (λ (it : Next). on_next (set_next it)) nexts) old ≡ Some new → NextsSet session nexts old new
nexts_set session [] old new is =
    let same : old ≡ new = (let e : Some old ≡ Some new = is in cc) in
    record {
      texts = ap (λ (t : OutboxTables). t.texts) (sym same);
      closed = ap (λ (t : OutboxTables). t.closed) (sym same);
      frames = ap (λ (t : OutboxTables). t.frames) (sym same);
      row = ap (λ (t : OutboxTables). Some (t.next session)) same;
    }
nexts_set session (it ∷ nexts) old new is =
    let one = chained (executed (map (λ (it : Next). on_next (set_next it)) nexts)) (on_next (set_next it) old) new is in
    let between = one.0 in
    let put = mapped (λ (next : Table ℕ). let t : OutboxTables = record old { next = next } in t) _ between one.1 in
    let row = changed_row (set_next it) old.next (put.0) put.1 in
    let next : with_row old.next it.session (row.0) ≡ between.next = row.2 ∙ ap (λ (t : OutboxTables). t.next) put.2 in
    let rest = nexts_set session nexts between new one.2 in
    record {
      texts = rest.texts ∙ ap (λ (t : OutboxTables). t.texts) (sym put.2);
      closed = rest.closed ∙ ap (λ (t : OutboxTables). t.closed) (sym put.2);
      frames = rest.frames ∙ ap (λ (t : OutboxTables). t.frames) (sym put.2);
      row = by (cases_eq it.session session) (row.0) between row.1 next rest.row;
    }
  where
    by : (it.session ≡ session) ⊎ (it.session ≡ session → ⊥) → (row : ℕ) (between : OutboxTables) → next_writes it (old.next it.session) ≡ Some row → with_row old.next it.session row ≡ between.next
        → steps (nexts_of session nexts) (between.next session) ≡ Some (new.next session) → steps (nexts_of session (it ∷ nexts)) (old.next session) ≡ Some (new.next session)
    by (inl same) row between writes is rest =
        let there : between.next session ≡ Some row = ap (λ (t : Table ℕ). t session) (sym is) ∙ subst (λ s. with_row old.next it.session row s ≡ Some row) same (at_key old.next it.session row) in
        let here : next_writes it (old.next session) ≡ Some row = subst (λ s. next_writes it (old.next s) ≡ Some row) same writes in
        rw (eq-eqb it.session session same) (rw here (ap (λ o. steps (nexts_of session nexts) o) (sym there) ∙ rest))
    by (inr apart) row between writes is rest =
        let there : between.next session ≡ old.next session = ap (λ (t : Table ℕ). t session) (sym is) ∙ at_other old.next it.session session row (λ e. apart (sym e)) in
        rw (ne_eqb it.session session apart) (ap (λ o. steps (nexts_of session nexts) o) (sym there) ∙ rest)

-- ---- a sender's transaction

record Done (it : Sent) (session : ℕ) (old new : OutboxTables) : Type 0 where
  pub texts : new.texts ≡ without_all it.drops old.texts
  pub closed : new.closed ≡ old.closed
  pub row : steps (nexts_of session it.nexts) (old.next session) ≡ Some (new.next session)
  pub frames : (number : ℕ) (frame : List ℕ) → new.frames session number ≡ Some frame → (old.frames session number ≡ Some frame) ⊎ Adds it.frames session number frame

done : (it : Sent) (session : ℕ) (old new : OutboxTables) → executed (sending it) old ≡ Some new → Done it session old new
done it session old new is =
    let one = executed_parts (map add_frame it.frames) _ old new is in
    let added = frames_added it.frames old (one.0) one.1 in
    let two = executed_parts (map drop_texts it.drops) _ (one.0) new one.2 in
    let then : OutboxTables = record (one.0) { texts = without_all it.drops (one.0).texts } in
    let dropped : then ≡ two.0 = (let e : Some then ≡ Some (two.0) = sym (texts_dropped it.drops (one.0)) ∙ two.1 in cc) in
    let three = executed_parts (map (λ (next : Next). on_next (set_next next)) it.nexts) _ (two.0) new two.2 in
    let set = nexts_set session it.nexts then (three.0) (subst (λ t. executed (map (λ (next : Next). on_next (set_next next)) it.nexts) t ≡ Some (three.0)) (sym dropped) three.1) in
    let end = frames_dropped it.carried (three.0) new three.2 in
    record {
      texts = end.texts ∙ (set.texts ∙ ap (λ rows. without_all it.drops rows) added.texts);
      closed = end.closed ∙ (set.closed ∙ added.closed);
      row = subst (λ o. steps (nexts_of session it.nexts) o ≡ Some (new.next session)) (ap (λ (t : Table ℕ). t session) added.next) (set.row ∙ ap (λ (t : Table ℕ). Some (t session)) (sym end.next));
      frames = λ number frame at. added.frames session number frame (ap (λ (f : ℕ → Table (List ℕ)). f session number) (sym set.frames) ∙ end.frames session number frame at);
    }

numbered_at : (from : ℕ) (sealed : List Sealed) (i : ℕ) (it : Sealed) → slice_get sealed i ≡ Some it → slice_get (numbered from sealed) i ≡ Some (record { number = from + i; it = it })
numbered_at from [] i it at = absurd (let e = at in cc)
numbered_at from (s ∷ sealed) zero it at =
    let same : s ≡ it = (let e : Some s ≡ Some it = at in cc) in
    let number : from ≡ from + 0 = omega arith in
    ap₂ (λ n x. let kept : Kept = record { number = n; it = x } in Some kept) number same
numbered_at from (s ∷ sealed) (suc i) it at =
    let number : from + 1 + i ≡ from + suc i = omega arith in
    numbered_at (from + 1) sealed i it at ∙ ap (λ n. let kept : Kept = record { number = n; it = it } in Some kept) number

slice_get-back : {X : Type 0} (xs ys : List X) (i : ℕ) → slice_get (xs ++ ys) (length xs + i) ≡ slice_get ys i
slice_get-back [] ys i = ap (λ n. slice_get ys n) (let e : 0 + i ≡ i = omega arith in e)
slice_get-back (x ∷ xs) ys i =
    ap (λ n. slice_get (x ∷ (xs ++ ys)) n) (let e : suc (length xs) + i ≡ suc (length xs + i) = omega arith in e) ∙ slice_get-back xs ys i

next_was : (first from : ℕ) (it : Next) (o : Option ℕ) (row : ℕ) → it.from ≡ from → it.first ≡ first → next_writes it o ≡ Some row → (it.to ≡ row) × (next_in first o ≡ from)
next_was first from it None row same begins is =
    let g = guarded (it.from == it.first) it.to row is in
    (g.1, sym begins ∙ (sym (eqb-true it.from it.first g.0) ∙ same))
next_was first from it (Some next) row same begins is =
    let g = guarded (next == it.from) it.to row is in
    (g.1, eqb-true next it.from g.0 ∙ same)

pub record IsAfter (first session : ℕ) (old : Outbox) (act : Act) (new : OutboxTables) : Type 0 where
  pub after : Outbox
  pub acts : Acts old act after
  pub holds : Holds first session new after

module _ (it : Sent) (first session : ℕ) (sealing : Sealing) (outbox : Outbox) (old new : OutboxTables) (seals : Seals first session old it sealing) (holds : Holds first session old outbox) (is : executed (sending it) old ≡ Some new) where
  abbrev d : Done it session old new
  d = done it session old new is

  abbrev left : List Put
  left = waiting_of session (without_all it.drops old.texts)

  abbrev sealed_after : Outbox
  sealed_after = with_frames outbox sealing left

  next_moved : (row : ℕ) × (next_writes seals.next (old.next session) ≡ Some row) × (Some row ≡ new.next session)
  next_moved =
      let whole : steps (seals.next ∷ []) (old.next session) ≡ Some (new.next session) = subst (λ ns. steps ns (old.next session) ≡ Some (new.next session)) seals.once d.row in
      let one = chained (λ (row : ℕ). steps [] (Some row)) (next_writes seals.next (old.next session)) (new.next session) whole in
      (one.0, one.1, (let e : Some (Some (one.0)) ≡ Some (new.next session) = one.2 in cc))

  was : (seals.next.to ≡ next_moved.0) × (next_in first (old.next session) ≡ sealing.from)
  was = next_was first sealing.from seals.next (old.next session) (next_moved.0) seals.from seals.first_is next_moved.1

  may_leave : (number : ℕ) (frame : List ℕ) → (old.frames session number ≡ Some frame) ⊎ Adds it.frames session number frame → MayLeave sealed_after number frame
  may_leave number frame (inl there) =
      let may = holds.frames number frame there in
      record { place = may.place; kept = may.kept; there = slice_get-append outbox.frames (numbered sealing.from sealing.sealed) may.place may.kept may.there; number_is = may.number_is; frame_is = may.frame_is }
  may_leave number frame (inr adds) =
      let new = seals.frames number frame adds in
      record {
        place = length outbox.frames + new.0;
        kept = record { number = sealing.from + new.0; it = new.1 };
        there = slice_get-back outbox.frames (numbered sealing.from sealing.sealed) (new.0) ∙ numbered_at sealing.from sealing.sealed (new.0) (new.1) new.2;
        number_is = sym new.3;
        frame_is = sym new.4;
      }

  pub sealed_act : IsAfter first session outbox (Seal sealing) new
  sealed_act = record {
    after = sealed_after;
    acts = inl (sym holds.next ∙ was.1, (left, sym holds.waiting ∙ seals.takes, refl));
    holds = record {
      waiting = ap (λ rows. waiting_of session rows) d.texts;
      closed = ap (λ (c : ℕ → Bool). c session) d.closed ∙ holds.closed;
      next = ap (λ o. next_in first o) (sym next_moved.2) ∙ (sym was.0 ∙ seals.to);
      frames = λ number frame at. may_leave number frame (d.frames number frame at);
    };
  }

pub sending_act : (it : Sent) (first session : ℕ) (sealing : Sealing) (outbox : Outbox) (old new : OutboxTables) → Seals first session old it sealing → Holds first session old outbox → (executed (sending it) old ≡ Some new) ⊎ (new ≡ old) → IsAfter first session outbox (Seal sealing) new
sending_act it first session sealing outbox old new seals holds (inl is) = sealed_act it first session sealing outbox old new seals holds is
sending_act it first session sealing outbox old new seals holds (inr same) = record { after = outbox; acts = inr refl; holds = subst (λ t. Holds first session t outbox) (sym same) holds }

pub sending_none : (it : Sent) (first session : ℕ) (outbox : Outbox) (old new : OutboxTables) → SealsNone session old it → Holds first session old outbox → (executed (sending it) old ≡ Some new) ⊎ (new ≡ old) → Holds first session new outbox
sending_none it first session outbox old new none holds (inr same) = subst (λ t. Holds first session t outbox) (sym same) holds
sending_none it first session outbox old new none holds (inl is) =
    let d = done it session old new is in
    let row : Some (old.next session) ≡ Some (new.next session) = subst (λ ns. steps ns (old.next session) ≡ Some (new.next session)) none.no_next d.row in
    let same : old.next session ≡ new.next session = cc in
    record {
      waiting = ap (λ rows. waiting_of session rows) d.texts ∙ (none.no_text ∙ holds.waiting);
      closed = ap (λ (c : ℕ → Bool). c session) d.closed ∙ holds.closed;
      next = ap (λ o. next_in first o) (sym same) ∙ holds.next;
      frames = λ number frame at. elim (d.frames number frame at) [
        | inl there ↦ holds.frames number frame there
        | inr adds ↦ absurd (none.no_frame number frame adds)
      ];
    }

-- where there is no row, it goes on from the first number, or does nothing
pub no_row : (it : Sent) (session : ℕ) (next : Next) (old new : OutboxTables) → nexts_of session it.nexts ≡ next ∷ [] → old.next session ≡ None → (next.from ≡ next.first → ⊥)
    → (executed (sending it) old ≡ Some new) ⊎ (new ≡ old) → new ≡ old
no_row it session next old new once none other (inr same) = same
no_row it session next old new once none other (inl is) =
    let whole : steps (next ∷ []) None ≡ Some (new.next session) =
    subst (λ o. steps (next ∷ []) o ≡ Some (new.next session)) none (subst (λ ns. steps ns (old.next session) ≡ Some (new.next session)) once (done it session old new is).row) in
    let one = chained (λ (row : ℕ). steps [] (Some row)) (next_writes next None) (new.next session) whole in
    absurd (other (eqb-true next.from next.first (guarded (next.from == next.first) next.to (one.0) one.1).0))

-- ---- an application's transaction

refused : {A : Type 0} (b : Bool) (x y : A) → cond b None (Some x) ≡ Some y → (b ≡ false) × (x ≡ y)
refused true x y is = absurd (let e : ◌≡◌ {A = Option _} None (Some y) = is in cc)
refused false x y is = (refl, (let e : Some x ≡ Some y = is in cc))

waiting-own : (session : ℕ) (rows : List TextRow) (row : TextRow) → row.session ≡ session → waiting_of session (rows ++ row ∷ []) ≡ waiting_of session rows ++ row.body ∷ []
waiting-own session [] row own = rw (eq-eqb row.session session own) refl
waiting-own session (r ∷ rows) row own =
    let rest = waiting-own session rows row own in
    elim (r.session == session) as (λ b. cond b (r.body ∷ waiting_of session (rows ++ row ∷ [])) (waiting_of session (rows ++ row ∷ [])) ≡ cond b (r.body ∷ waiting_of session rows) (waiting_of session rows) ++ row.body ∷ []) [
      | true ↦ ap (λ l. r.body ∷ l) rest
      | false ↦ rest
    ]

waiting-other : (session : ℕ) (rows : List TextRow) (row : TextRow) → (row.session ≡ session → ⊥) → waiting_of session (rows ++ row ∷ []) ≡ waiting_of session rows
waiting-other session [] row other = rw (ne_eqb row.session session other) refl
waiting-other session (r ∷ rows) row other =
    let rest = waiting-other session rows row other in
    elim (r.session == session) as (λ b. cond b (r.body ∷ waiting_of session (rows ++ row ∷ [])) (waiting_of session (rows ++ row ∷ [])) ≡ cond b (r.body ∷ waiting_of session rows) (waiting_of session rows)) [
      | true ↦ ap (λ l. r.body ∷ l) rest
      | false ↦ rest
    ]

close_too : (puts : List Put) (put : Put) → has_close_put puts ≡ false → has_close_put (puts ++ put ∷ []) ≡ is_none put
close_too [] (Some text) none = refl
close_too [] None none = refl
close_too (Some text ∷ puts) put none = close_too puts put none
close_too (None ∷ puts) put none = absurd (let e : true ≡ false = none in cc)

inserts : (row : TextRow) (old new : OutboxTables) → executed (insert_text row ∷ []) old ≡ Some new
    → (old.closed row.session ≡ false) × ((record old { texts = old.texts ++ row ∷ []; closed = λ (session : ℕ). old.closed session || ((session == row.session) && is_none row.body) }) ≡ new)
inserts row old new is =
    let one = chained (executed []) (insert_text row old) new is in
    let put = refused (old.closed row.session) _ (one.0) one.1 in
    let same : one.0 ≡ new = (let e : Some (one.0) ≡ Some new = one.2 in cc) in
    (put.0, put.1 ∙ same)

pub text_act : (row : TextRow) (first : ℕ) (outbox : Outbox) (old new : OutboxTables) → Holds first row.session old outbox → (executed (insert_text row ∷ []) old ≡ Some new) ⊎ (new ≡ old) → IsAfter first row.session outbox (Insert row.body) new
text_act row first outbox old new holds (inr same) = record { after = outbox; acts = inr refl; holds = subst (λ t. Holds first row.session t outbox) (sym same) holds }
text_act row first outbox old new holds (inl is) =
    let put = inserts row old new is in
    let none : has_close_put outbox.inserted ≡ false = sym holds.closed ∙ put.0 in
    record {
      after = with_put outbox row.body;
      acts = inl (none, refl);
      holds = record {
        waiting = ap (λ (t : OutboxTables). waiting_of row.session t.texts) (sym put.1) ∙ (waiting-own row.session old.texts row refl ∙ ap (λ l. l ++ row.body ∷ []) holds.waiting);
        closed = ap (λ (t : OutboxTables). t.closed row.session) (sym put.1) ∙ ((rw (put.0, eq-eqb row.session row.session refl) refl) ∙ sym (close_too outbox.inserted row.body none));
        next = ap (λ (t : OutboxTables). next_in first (t.next row.session)) (sym put.1) ∙ holds.next;
        frames = λ number frame at.
            let may = holds.frames number frame (ap (λ (t : OutboxTables). t.frames row.session number) put.1 ∙ at) in
            record { place = may.place; kept = may.kept; there = may.there; number_is = may.number_is; frame_is = may.frame_is };
      };
    }

or_none : (b : Bool) → (b || false) ≡ b
or_none true = refl
or_none false = refl

text_none : (row : TextRow) (first session : ℕ) (outbox : Outbox) (old new : OutboxTables) → (row.session ≡ session → ⊥) → Holds first session old outbox → (executed (insert_text row ∷ []) old ≡ Some new) ⊎ (new ≡ old) → Holds first session new outbox
text_none row first session outbox old new other holds (inr same) = subst (λ t. Holds first session t outbox) (sym same) holds
text_none row first session outbox old new other holds (inl is) =
    let put = inserts row old new is in
    record {
      waiting = ap (λ (t : OutboxTables). waiting_of session t.texts) (sym put.1) ∙ (waiting-other session old.texts row other ∙ holds.waiting);
      closed = ap (λ (t : OutboxTables). t.closed session) (sym put.1) ∙ ((rw (ne_eqb session row.session (λ e. other (sym e))) (or_none (old.closed session))) ∙ holds.closed);
      next = ap (λ (t : OutboxTables). next_in first (t.next session)) (sym put.1) ∙ holds.next;
      frames = λ number frame at. holds.frames number frame (ap (λ (t : OutboxTables). t.frames session number) put.1 ∙ at);
    }

-- ---- histories

pub record HasActs (sealer : SealerState) (session : ℕ) (old : Outbox) (tables : OutboxTables) : Type 0 where
  pub acts : List Act
  pub outbox : Outbox
  pub each : All (IsAct sealer) acts
  pub lead : LeadsOutbox old acts outbox
  pub holds : Holds sealer.next session tables outbox

module _ (sealer : SealerState) (session : ℕ) where
  with_act : (old : Outbox) (act : Act) (between new : OutboxTables) → IsAct sealer act → (it : IsAfter sealer.next session old act between) → HasActs sealer session it.after new → HasActs sealer session old new
  with_act old act between new is it rest = record {
    acts = act ∷ rest.acts;
    outbox = rest.outbox;
    each = All-cons (IsAct sealer) act rest.acts is rest.each;
    lead = (it.after, it.acts, rest.lead);
    holds = rest.holds;
  }

  abbrev One : Outbox → OutboxTables → Type 0
  One outbox between = ((act : Act) × IsAct sealer act × IsAfter sealer.next session outbox act between) ⊎ Holds sealer.next session between outbox

  one_text : (row : TextRow) (outbox : Outbox) (old between : OutboxTables) → Holds sealer.next session old outbox → (executed (insert_text row ∷ []) old ≡ Some between) ⊎ (between ≡ old) → (row.session ≡ session) ⊎ (row.session ≡ session → ⊥) → One outbox between
  one_text row outbox old between holds ends (inl own) =
      inl (Insert row.body, tt, subst (λ s. IsAfter sealer.next s outbox (Insert row.body) between) own (text_act row sealer.next outbox old between (subst (λ s. Holds sealer.next s old outbox) (sym own) holds) ends))
  one_text row outbox old between holds ends (inr other) = inr (text_none row sealer.next session outbox old between other holds ends)

  one_deed : (deed : Deed) (answer : CommitAnswer) (outbox : Outbox) (old between : OutboxTables) → Holds sealer.next session old outbox → IsDeed sealer session old deed → Ends (statements_of deed) answer old between → One outbox between
  one_deed (Puts row) answer outbox old between holds is ends = one_text row outbox old between holds (ended (insert_text row ∷ []) answer old between ends) (cases_eq row.session session)
  one_deed (Sends it) answer outbox old between holds (inl seals) ends = inl (Seal (seals.0), seals.1, sending_act it sealer.next session (seals.0) outbox old between seals.2 holds (ended (sending it) answer old between ends))
  one_deed (Sends it) answer outbox old between holds (inr none) ends = inr (sending_none it sealer.next session outbox old between none holds (ended (sending it) answer old between ends))

  pub acts_of : (deeds : List Deed) (outbox : Outbox) (old new : OutboxTables) → Holds sealer.next session old outbox → LeadsDeeds sealer session old deeds new → HasActs sealer session outbox new
  acts_of [] outbox old new holds same = record { acts = []; outbox = outbox; each = All-nil (IsAct sealer); lead = refl; holds = subst (λ t. Holds sealer.next session t outbox) (sym same) holds }
  acts_of (deed ∷ deeds) outbox old new holds leads =
      elim (one_deed deed (leads.0) outbox old (leads.1) holds leads.2 leads.3) [
        | inl act ↦ with_act outbox (act.0) (leads.1) new act.1 act.2 (acts_of deeds (act.2).after (leads.1) new (act.2).holds leads.4)
        | inr same ↦ acts_of deeds outbox (leads.1) new same leads.4
      ]

  pub holds_none : Holds sealer.next session empty_tables (new_outbox sealer)
  holds_none = record {
    waiting = refl;
    closed = refl;
    next = refl;
    frames = λ number frame at. absurd (let e : ◌≡◌ {A = Option (List ℕ)} None (Some frame) = at in cc);
  }

pub one_row : (sealer : SealerState) (session : ℕ) (before after : List Deed) (old new : OutboxTables) (number : ℕ) (frame other : List ℕ)
    → LeadsDeeds sealer session empty_tables before old → LeadsDeeds sealer session old after new → old.frames session number ≡ Some frame → new.frames session number ≡ Some other → frame ≡ other
one_row sealer session before after old new number frame other first second at later =
    let one = acts_of sealer session before (new_outbox sealer) empty_tables old (holds_none sealer session) first in
    let two = acts_of sealer session after one.outbox old new one.holds second in
    one_frame sealer one.acts one.outbox two.acts two.outbox number frame other one.each one.lead two.each two.lead ((one.holds).frames number frame at) ((two.holds).frames number other later)
