-- A transaction that takes effect, and what goes wrong where less is compared.
use Rattle.std.proofs.Common.{◌≡◌, ℕ, ◌+◌, true, List, [], ◌∷◌, slice_get, Some, None, refl, sym, ◌∙◌, inl, inr, arith}
use Rattle.std.proofs.lemmas.Bool.{eq-eqb}
use Rattle.krb_record.specs.declared.record.Record.TheVariants.{Text}
use Rattle.krb_peers.specs.Session.{Sealed}
use Rattle.krb_carry.specs.Outbox.{Kept, Sealing}
use Rattle.krb_laws.specs.Database.{with_row, executed}
use Rattle.krb_laws.specs.Laws.{SendingsHappen, LastIsNotEnough}
use Rattle.krb_laws.specs.OutboxTables.{OutboxTables, empty_tables, FrameRow, with_frame, Next, Sent, sending, Adds, Seals}
use Rattle.krb_laws.specs.Restored.{World}

module _ (first at : ℕ) (text frame : List ℕ) where
  abbrev sealed : Sealed
  sealed = record { carried = Text text; at = at; frame = frame }

  abbrev sealing : Sealing
  sealing = record { from = first; sealed = sealed ∷ [] }

  abbrev row : FrameRow
  row = record { session = 0; number = first; frame = frame }

  abbrev next : Next
  next = record { session = 0; first = first; from = first; to = first + 1 }

  abbrev it : Sent
  it = record { frames = row ∷ []; drops = record { first = 0; last = 0 } ∷ []; nexts = next ∷ []; carried = [] }

  abbrev old : OutboxTables
  old = record empty_tables { texts = record { id = 0; session = 0; body = Some text } ∷ [] }

  abbrev new : OutboxTables
  new = record empty_tables { next = with_row (λ (session : ℕ). None) 0 (first + 1); frames = with_frame empty_tables.frames row frame }

  its_frame : (number : ℕ) (other : List ℕ) → Adds it.frames 0 number other → (i : ℕ) × (s : Sealed) × (slice_get sealing.sealed i ≡ Some s) × (number ≡ sealing.from + i) × (other ≡ s.frame)
  its_frame number other (inl is) = (0, sealed, refl, is.1 ∙ (let e : first ≡ first + 0 = omega arith in e), sym is.2)
  its_frame number other (inr none) = absurd none

  seals : Seals first 0 old it sealing
  seals = record { next = next; once = refl; first_is = refl; from = refl; to = refl; takes = refl; frames = its_frame }

  does : executed (sending it) old ≡ Some new
  does = rw (eq-eqb first first refl) refl

  stands : new.frames 0 first ≡ Some frame
  stands = rw (eq-eqb first first refl) refl

pub happens : SendingsHappen
happens first at text frame = (it first at text frame, old first at text frame, new first at text frame, seals first at text frame, does first at text frame, refl, stands first at text frame, refl)

pub last_is_not : LastIsNotEnough
last_is_not first one two other =
    let last : Kept = record { number = first; it = one } in
    let before : Kept = record { number = first + 1; it = two } in
    let again : Kept = record { number = first + 1; it = other } in
    let sealed : World = record {
      now = record { next = first + 1 + 1; keeps = again ∷ [] };
      past = record { next = first + 1; keeps = [] } ∷ [];
      left = before ∷ last ∷ [];
      has_begun = true;
    } in
    let end : World = record sealed { left = before ∷ last ∷ again ∷ [] } in
    (end, (sealed, (refl, refl), (end, ((0, refl), refl), refl)), (0, refl), (2, refl))
