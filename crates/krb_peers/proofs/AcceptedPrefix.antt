-- The accepted records begin the list that the offers carry.
use Rattle.std.proofs.Common.{◌≡◌, ℕ, true, false, List, [], ◌∷◌, ◌++◌, length, slice_get, Some, None, Ok, Err, refl, sym, ap, subst, ◌∙◌, append_assoc, append-nil, arith}
use Rattle.std.specs.List.{Contains, list_any, flat_map}
use Rattle.std.proofs.lemmas.List.Elements.{All-head, All-tail, Contains-append_right}
use Rattle.std.proofs.lemmas.List.Concat.{flat_map-append}
use Rattle.krb_base.specs.Prefix.{IsPrefix}
use Rattle.krb_base.proofs.PrefixLemmas.{prefix_whole}
use Rattle.krb_record.specs.declared.record.Record.{Record}
use Rattle.krb_record.specs.declared.record.Record.TheVariants.{Text, Batch, Close}
use Rattle.krb_record.specs.Record.{is_close, texts_of}
use Rattle.krb_peers.specs.Order.{Offer, Answer}
use Rattle.krb_peers.specs.Accepted.{accepted_of, Accepted, IsNumbered, AreNumbered, EndsWithItsClose}
use Rattle.krb_peers.proofs.OrderLemmas.{any_from_contains, any_from_none}
use Rattle.krb_peers.proofs.AcceptedLemmas.{AcceptedFrom, accepted_from}

-- a prefix grows by the item at its end
grows : {X : Type 0} (front rest : List X) (x : X) → slice_get (front ++ rest) (length front) ≡ Some x → IsPrefix (front ++ x ∷ []) (front ++ rest)
grows [] [] x at = absurd (let e : None ≡ Some x = at in cc)
grows [] (y ∷ rest) x at = let same : y ≡ x = (let e = at in cc) in (rest, ap (λ z. z ∷ rest) same)
grows (f ∷ front) rest x at = let next = grows front rest x at in (next.0, ap (λ z. f ∷ z) next.1)

prefix_grows : {X : Type 0} (front whole : List X) (x : X) → IsPrefix front whole → slice_get whole (length front) ≡ Some x → IsPrefix (front ++ x ∷ []) whole
prefix_grows {X} front whole x begins at =
    let P : List X → Type 0 = λ z. slice_get z (length front) ≡ Some x in
    let next = grows front begins.0 x (subst P begins.1 at) in
    (next.0, begins.1 ∙ next.1)

module _ (first : ℕ) (records : List Record) where
  prefix_from : (before : List Record) (offers : List Offer) (answers : List Answer) → AcceptedFrom first before offers answers → AreNumbered first records offers → IsPrefix before records
      → IsPrefix (before ++ accepted_of offers answers) records
  prefix_from before [] [] all carries begins = rw (append-nil before) begins
  prefix_from before [] (answer ∷ answers) all carries begins = absurd all
  prefix_from before (offer ∷ offers) [] all carries begins = absurd all
  prefix_from before (offer ∷ offers) (Ok x ∷ answers) all carries begins =
      let comes = all.0.accepted.0 refl in
      let at : slice_get records (length before) ≡ Some offer.carried = All-head (IsNumbered first records) offer offers carries (length before) comes.demanded in
      let next = prefix_from (before ++ offer.carried ∷ []) offers answers all.1 (All-tail (IsNumbered first records) offer offers carries) (prefix_grows before records offer.carried begins at) in
      rw append_assoc at next
  prefix_from before (offer ∷ offers) (Err e ∷ answers) all carries begins =
      let rest : AcceptedFrom first before offers answers = (let P : List Record → Type 0 = λ z. AcceptedFrom first z offers answers in subst P (append-nil before) all.1) in
      prefix_from before offers answers rest (All-tail (IsNumbered first records) offer offers carries) begins

pub accepted_prefix : (first : ℕ) (records : List Record) (offers : List Offer) (answers : List Answer) → Accepted first offers answers → AreNumbered first records offers → IsPrefix (accepted_of offers answers) records
accepted_prefix first records offers answers all carries = prefix_from first records [] offers answers (accepted_from first offers answers all) carries (prefix_whole [] records)

none_of_both : {X : Type 0} (xs ys : List X) → [] ≡ xs ++ ys → ys ≡ []
none_of_both [] ys is = sym is
none_of_both (x ∷ xs) ys is = absurd (let e = is in cc)

-- a prefix that holds the one close at the end is the whole list
pub none_left : (accepted rest front : List Record) → list_any is_close accepted ≡ true → list_any is_close front ≡ false → front ++ Close ∷ [] ≡ accepted ++ rest → rest ≡ []
none_left [] rest front closed quiet is = absurd (let e : false ≡ true = closed in cc)
none_left (r ∷ accepted) rest [] closed quiet is =
    let e : Close ∷ [] ≡ r ∷ (accepted ++ rest) = is in
    let tail : [] ≡ accepted ++ rest = cc in
    none_of_both accepted rest tail
none_left (Text text ∷ accepted) rest (f ∷ front) closed quiet is =
    let e : f ∷ (front ++ Close ∷ []) ≡ Text text ∷ (accepted ++ rest) = is in
    let head : f ≡ Text text = cc in
    let tail : front ++ Close ∷ [] ≡ accepted ++ rest = cc in
    let P : Record → Type 0 = λ z. list_any is_close (z ∷ front) ≡ false in
    none_left accepted rest front closed (subst P head quiet) tail
none_left (Batch texts ∷ accepted) rest (f ∷ front) closed quiet is =
    let e : f ∷ (front ++ Close ∷ []) ≡ Batch texts ∷ (accepted ++ rest) = is in
    let head : f ≡ Batch texts = cc in
    let tail : front ++ Close ∷ [] ≡ accepted ++ rest = cc in
    let P : Record → Type 0 = λ z. list_any is_close (z ∷ front) ≡ false in
    none_left accepted rest front closed (subst P head quiet) tail
none_left (Close ∷ accepted) rest (f ∷ front) closed quiet is =
    let e : f ∷ (front ++ Close ∷ []) ≡ Close ∷ (accepted ++ rest) = is in
    let head : f ≡ Close = cc in
    let P : Record → Type 0 = λ z. list_any is_close (z ∷ front) ≡ false in
    absurd (let no : true ≡ false = subst P head quiet in cc)

pub accepted_whole : (first : ℕ) (records : List Record) (offers : List Offer) (answers : List Answer) → Accepted first offers answers → AreNumbered first records offers → EndsWithItsClose records
    → Contains (accepted_of offers answers) Close → accepted_of offers answers ≡ records
accepted_whole first records offers answers all carries ends contains =
    let begins = accepted_prefix first records offers answers all carries in
    let accepted = accepted_of offers answers in
    let none = none_left accepted begins.0 ends.0 (any_from_contains accepted contains) (any_from_none ends.0 ends.1) (sym ends.2 ∙ begins.1) in
    sym (begins.1 ∙ ap (λ z. accepted ++ z) none ∙ append-nil accepted)

-- nothing is accepted after a close
none_later : (first : ℕ) (before : List Record) (offers : List Offer) (answers : List Answer) → AcceptedFrom first before offers answers → Contains before Close → accepted_of offers answers ≡ []
none_later first before [] answers all closed = refl
none_later first before (offer ∷ offers) [] all closed = refl
none_later first before (offer ∷ offers) (Ok x ∷ answers) all closed = absurd ((all.0.accepted.0 refl).not_closed closed)
none_later first before (offer ∷ offers) (Err e ∷ answers) all closed =
    let P : List Record → Type 0 = λ z. AcceptedFrom first z offers answers in
    none_later first before offers answers (subst P (append-nil before) all.1) closed

-- the empty list has no close
no_item : (front back : List Record) → [] ≡ front ++ Close ∷ back → ⊥
no_item [] back is = let e = is in cc
no_item (r ∷ front) back is = let e = is in cc

close_from : (first : ℕ) (before front back : List Record) (offers : List Offer) (answers : List Answer) → AcceptedFrom first before offers answers → accepted_of offers answers ≡ front ++ Close ∷ back → back ≡ []
close_from first before front back [] answers all is = absurd (no_item front back is)
close_from first before front back (offer ∷ offers) [] all is = absurd (no_item front back is)
close_from first before [] back (offer ∷ offers) (Ok x ∷ answers) all is =
    let same : offer.carried ≡ Close = (let e = is in cc) in
    let rest : accepted_of offers answers ≡ back = (let e = is in cc) in
    let P : Record → Type 0 = λ z. Contains (before ++ z ∷ []) Close in
    let closed : Contains (before ++ offer.carried ∷ []) Close = subst P (sym same) (Contains-append_right before (Close ∷ []) Close (0, omega arith, refl)) in
    sym rest ∙ none_later first (before ++ offer.carried ∷ []) offers answers all.1 closed
close_from first before (r ∷ front) back (offer ∷ offers) (Ok x ∷ answers) all is =
    let rest : accepted_of offers answers ≡ front ++ Close ∷ back = (let e = is in cc) in
    close_from first (before ++ offer.carried ∷ []) front back offers answers all.1 rest
close_from first before front back (offer ∷ offers) (Err e ∷ answers) all is = close_from first (before ++ []) front back offers answers all.1 is

pub accepted_close_last : (first : ℕ) (offers : List Offer) (answers : List Answer) → Accepted first offers answers → (front back : List Record) → accepted_of offers answers ≡ front ++ Close ∷ back → back ≡ []
accepted_close_last first offers answers all front back is = close_from first [] front back offers answers (accepted_from first offers answers all) is

-- the texts of a prefix are a prefix of the texts
pub texts_prefix : (front whole : List Record) → IsPrefix front whole → IsPrefix (flat_map texts_of front) (flat_map texts_of whole)
texts_prefix front whole begins = (flat_map texts_of begins.0, ap (flat_map texts_of) begins.1 ∙ flat_map-append texts_of front begins.0)
