-- A session's end at a receiver goes with what is stored.
use Rattle.std.proofs.Common.{◌≡◌, ℕ, suc, ◌+◌, ◌-◌, ◌<◌, ◌≤◌, ◌==◌, nat_lt, if◌then◌else◌, Bool, true, false, Option, Some, None, List, [], ◌∷◌, ◌++◌, length, take, refl, sym, ap, subst, ◌∙◌, ◌↔◌, ◌⊎◌, inl, inr, arith, length-append, append_assoc, append-nil}
use Rattle.std.specs.Prelude.{is_some}
use Rattle.std.proofs.lemmas.List.{take_all}
use Rattle.std.proofs.lemmas.Bool.{true≢false, lt-ltb, le-ltb}
use Rattle.krb_carry.specs.History.{no_history, with_frames, with_frame as with_tag}
use Rattle.krb_carry.specs.declared.receipt.Receipt.{Receipt}
use Rattle.krb_carry.specs.Receipt.{below, history_of, history_below, IsTrue}
use Rattle.krb_engine.specs.declared.sending.Asks.{Asks}
use Rattle.krb_engine.specs.declared.sending.Asks.TheVariants as asks
use Rattle.krb_engine.specs.declared.receiving.Outcome.{Outcome}
use Rattle.krb_engine.specs.declared.receiving.Outcome.TheVariants.{Accepted, Repeat, Early, Unknown, Unsettled}
use Rattle.krb_engine.specs.declared.receiving.Row.{Row}
use Rattle.krb_engine.specs.declared.receiving.Seen.{Seen}
use Rattle.krb_engine.specs.declared.receiving.Receiving.{Receiving}
use Rattle.krb_engine.specs.Receiving.{by_number, outcome, after_frame, drafted_after, early_owes, owes, took, stored, dropped, answered}
use Rattle.krb_engine.specs.Sending.{is_over}
use Rattle.krb_engine.specs.Calls.{AnswersReceipt}
use Rattle.krb_engine.specs.ReceivingLaws.{IsRowOf, Store, IsEndAt, Call, Take, Commit, Drop, Ask, with_frame, after_call, AnswersCall, LeadsReceiving, GoesWithTheStore, ReceiptsAreTrue, AcceptsInTurn, RefusesByNumber, OwesReceipt, ReceiptsAreOwed, ReceiptsLeave, ClosesAreStored}

-- ---- one frame more

one_more : (history : List ℕ) (frames : List (List ℕ)) (frame : List ℕ) → with_frames history (frames ++ frame ∷ []) ≡ with_tag (with_frames history frames) frame
one_more history [] frame = refl
one_more history (first ∷ frames) frame = one_more (with_tag history first) frames frame

row_more : (first : ℕ) (frames : List (List ℕ)) (row : Row) (frame : List ℕ) (is_close : Bool) → IsRowOf first frames row → IsRowOf first (frames ++ frame ∷ []) (after_frame row frame is_close)
row_more first frames row frame is_close is = record {
  number = omega (arith, is.number, length-append frames (frame ∷ []));
  history = ap (λ h. with_tag h frame) is.history ∙ sym (one_more no_history frames frame);
}

drafted_more : (first : ℕ) (store : Store) (row : Row) (frame : List ℕ) (seen : Seen) (it : Outcome) → IsRowOf first (store.took ++ store.more) row
    → IsRowOf first ((with_frame store frame it).took ++ (with_frame store frame it).more) (drafted_after row frame seen it)
drafted_more first store row frame seen Accepted is =
    subst (λ l. IsRowOf first l (after_frame row frame seen.is_close)) (append_assoc store.took store.more (frame ∷ [])) (row_more first (store.took ++ store.more) row frame seen.is_close is)
drafted_more first store row frame seen Repeat is = is
drafted_more first store row frame seen Early is = is
drafted_more first store row frame seen Unknown is = is
drafted_more first store row frame seen Unsettled is = is

stored_too : (first : ℕ) (store : Store) (row : Row) (frame : List ℕ) (it : Outcome) → IsRowOf first store.took row → IsRowOf first (with_frame store frame it).took row
stored_too first store row frame Accepted is = is
stored_too first store row frame Repeat is = is
stored_too first store row frame Early is = is
stored_too first store row frame Unknown is = is
stored_too first store row frame Unsettled is = is

-- ---- each call

none_more : (first : ℕ) (frames : List (List ℕ)) (row : Row) → IsRowOf first frames row → IsRowOf first (frames ++ []) row
none_more first frames row is = subst (λ l. IsRowOf first l row) (sym (append-nil frames)) is

same_rows : (first : ℕ) (store : Store) (old new : Receiving) → new.stored ≡ old.stored → new.drafted ≡ old.drafted → IsEndAt first store old → IsEndAt first store new
same_rows first store old new a b is = record {
  stored = subst (λ r. IsRowOf first store.took r) (sym a) is.stored;
  drafted = subst (λ r. IsRowOf first (store.took ++ store.more) r) (sym b) is.drafted;
}

end_after : (first : ℕ) (store : Store) (old : Receiving) (call : Call) (new : Receiving) → IsEndAt first store old → AnswersCall old call new → IsEndAt first (after_call store old call) new
end_after first store old (Take frame seen) new is answers =
    subst (IsEndAt first (with_frame store frame (outcome old.drafted seen))) (sym answers) (record {
      stored = stored_too first store old.stored frame (outcome old.drafted seen) is.stored;
      drafted = drafted_more first store old.drafted frame seen (outcome old.drafted seen) is.drafted;
    })
end_after first store old Commit new is answers =
    subst (IsEndAt first (record { took = store.took ++ store.more; more = [] })) (sym answers) (record {
      stored = is.drafted;
      drafted = none_more first (store.took ++ store.more) old.drafted is.drafted;
    })
end_after first store old Drop new is answers =
    subst (IsEndAt first (record store { more = [] })) (sym answers) (record {
      stored = is.stored;
      drafted = none_more first store.took old.stored is.stored;
    })
end_after first store old (Ask now None) new is answers = subst (IsEndAt first store) (sym answers.1) is
end_after first store old (Ask now (Some answer)) new is answers =
    subst (IsEndAt first store) (sym answers.4) (same_rows first store old (answered old now) refl refl is)

pub goes_with_the_store : GoesWithTheStore
goes_with_the_store first store old [] last new is leads =
    subst (λ s. IsEndAt first s new) (sym leads.0) (subst (IsEndAt first store) (sym leads.1) is)
goes_with_the_store first store old (call ∷ calls) last new is leads =
    goes_with_the_store first (after_call store old call) leads.0 calls last new (end_after first store old call leads.0 is leads.1) leads.2

pub receipts_are_true : ReceiptsAreTrue
receipts_are_true first store old calls last between now receipt it new is leads answers =
    let end = goes_with_the_store first store old calls last between is leads in
    let number : receipt.number ≡ between.stored.demanded.number = ap (λ (r : Receipt). r.number) answers.3 in
    let history : receipt.history ≡ between.stored.demanded.history = ap (λ (r : Receipt). r.history) answers.3 in
    let all : length last.took ≤ receipt.number - first = omega (arith, number, (end.stored).number) in (
      record {
        took_effect = omega (arith, number, (end.stored).number);
        history = history ∙ ((end.stored).history ∙ sym (ap history_of (take_all (receipt.number - first) last.took all)));
      },
      answers.0,
    )

-- ---- what a frame is taken for

refusal_differs : (demanded : ℕ) (opened : Option ℕ) → by_number demanded opened ≡ Accepted → ⊥
refusal_differs demanded (Some number) same = by_tests (nat_lt number demanded) (nat_lt demanded number) same
  where
    by_tests : (a b : Bool) → (if a then Repeat else (if b then Early else Unsettled)) ≡ Accepted → ⊥
    by_tests true b same = cc
    by_tests false true same = cc
    by_tests false false same = cc
refusal_differs demanded None same = cc

accepted_is : (a c : Bool) (demanded : ℕ) (opened : Option ℕ) → ((if c then Repeat else (if a then Accepted else by_number demanded opened)) ≡ Accepted) ↔ ((a ≡ true) × (c ≡ false))
accepted_is true false demanded opened = (λ same. (refl, refl), λ is. refl)
accepted_is true true demanded opened = (λ same. absurd (let e : Repeat ≡ Accepted = same in cc), λ is. absurd (true≢false is.1))
accepted_is false true demanded opened = (λ same. absurd (let e : Repeat ≡ Accepted = same in cc), λ is. absurd (true≢false is.1))
accepted_is false false demanded opened = (λ same. absurd (refusal_differs demanded opened same), λ is. absurd (true≢false (sym is.0)))

pub accepts_in_turn : AcceptsInTurn
accepts_in_turn row seen = accepted_is seen.accepted row.closed row.demanded.number seen.opened

refused_is : (a c : Bool) (demanded : ℕ) (opened : Option ℕ) → a ≡ false → c ≡ false
    → (if c then Repeat else (if a then Accepted else by_number demanded opened)) ≡ by_number demanded opened
refused_is true c demanded opened none goes_on = absurd (true≢false none)
refused_is false true demanded opened none goes_on = absurd (true≢false goes_on)
refused_is false false demanded opened none goes_on = refl

repeat_is : (demanded number : ℕ) → number < demanded → by_number demanded (Some number) ≡ Repeat
repeat_is demanded number lt = ap (λ t. if t then Repeat else (if nat_lt demanded number then Early else Unsettled)) (lt-ltb number demanded lt)

early_is : (demanded number : ℕ) → demanded < number → by_number demanded (Some number) ≡ Early
early_is demanded number lt =
    ap (λ t. if t then Repeat else (if nat_lt demanded number then Early else Unsettled)) (le-ltb number demanded (omega (arith, lt)))
    ∙ ap (λ t. if t then Early else Unsettled) (lt-ltb demanded number lt)

unsettled_is : (demanded : ℕ) → by_number demanded (Some demanded) ≡ Unsettled
unsettled_is demanded =
    ap (λ t. if t then Repeat else (if nat_lt demanded demanded then Early else Unsettled)) (le-ltb demanded demanded (omega arith))
    ∙ ap (λ t. if t then Early else Unsettled) (le-ltb demanded demanded (omega arith))

pub refuses_by_number : RefusesByNumber
refuses_by_number row seen none goes_on =
    let demanded = row.demanded.number in
    let is = refused_is seen.accepted row.closed demanded seen.opened none goes_on in
    let opens : (opened : Option ℕ) → seen.opened ≡ opened → outcome row seen ≡ by_number demanded opened = λ opened at. is ∙ ap (λ o. by_number demanded o) at in (
      λ it. opens (Some it.0) it.1 ∙ repeat_is demanded it.0 it.2,
      λ it. opens (Some it.0) it.1 ∙ early_is demanded it.0 it.2,
      λ it. opens (Some demanded) it ∙ unsettled_is demanded,
      λ it. opens None it,
    )

-- ---- receipts, and the close

repeat_owes : (owed : Option Asks) → is_some (owes owed Repeat) ≡ true
repeat_owes owed = refl

early_asks : (owed : Option Asks) → (early_owes owed ≡ Some asks.Missing) ⊎ (early_owes owed ≡ Some asks.Refused)
early_asks None = inl refl
early_asks (Some asks.Nothing) = inl refl
early_asks (Some asks.Missing) = inl refl
early_asks (Some asks.Refused) = inr refl

owed_by : (owed : Option Asks) (it : Outcome) → OwesReceipt owed it (owes owed it)
owed_by owed Accepted = refl
owed_by owed Repeat = repeat_owes owed
owed_by owed Early = early_asks owed
owed_by owed Unknown = refl
owed_by owed Unsettled = refl

pub receipts_are_owed : ReceiptsAreOwed
receipts_are_owed old frame seen = owed_by old.owed (outcome old.drafted seen)

pub receipts_leave : ReceiptsLeave
receipts_leave old now it None new owed over answers = absurd (by_rest answers.0)
  where
    by_rest : (false ≡ true) ⊎ (is_over old.paid now ≡ false) ⊎ (old.owed ≡ None) → ⊥
    by_rest (inl running) = true≢false (sym running)
    by_rest (inr (inl early)) = true≢false (sym over ∙ early)
    by_rest (inr (inr none)) = (let e : Some it ≡ None = sym owed ∙ none in cc)
receipts_leave old now it (Some (receipt, what)) new owed over answers =
    let same : it ≡ what = (let e : Some it ≡ Some what = sym owed ∙ answers.2 in cc) in
    ap (λ r. Some (r, what)) answers.3 ∙ ap (λ w. Some (old.drafted.demanded, w)) (sym same)

pub closes_are_stored : ClosesAreStored
closes_are_stored old frame seen later accepted is =
    let row = (took old frame seen).drafted in
    let closed : row.closed ≡ true = ap (λ o. (drafted_after old.drafted frame seen o).closed) accepted ∙ is in
    (closed, ap (λ c. if c then Repeat else (if later.accepted then Accepted else by_number row.demanded.number later.opened)) closed)
