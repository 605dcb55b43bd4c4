-- What verdicts accept and deliver.
use Rattle.std.proofs.Common.{◌≡◌, ℕ, zero, suc, ◌+◌, List, [], ◌∷◌, ◌++◌, length, map, take, drop, slice_get, Some, Ok, Err, refl, sym, ap, ap₂, ◌∙◌, arith, append-nil}
use Rattle.std.specs.List.{flat_map}
use Rattle.std.proofs.lemmas.List.Concat.{flat_map-append}
use Rattle.krb_base.specs.Prefix.{IsPrefix}
use Rattle.krb_record.specs.declared.record.Record.{Record}
use Rattle.krb_record.specs.declared.record.Record.TheVariants as records
use Rattle.krb_record.specs.Record.{texts_of}
use Rattle.krb_peers.specs.declared.delivery.Delivery.{Delivery}
use Rattle.krb_peers.specs.declared.delivery.Delivery.TheVariants.{Text, Batch, Closed}
use Rattle.krb_peers.specs.Log.{texts_in}
use Rattle.krb_peers.specs.Verdicts.{Verdict, record_of, records_of, events_from, events_by, accepted_by, delivered}
use Rattle.krb_peers.proofs.LoggedLemmas.{texts_in-append, texts_in-texts}
use Rattle.krb_peers.proofs.ListLemmas.{drop_get}

-- ---- lists

-- an item of a mapped list
pub record IsImage {X Y : Type 0} (f : X → Y) (xs : List X) (i : ℕ) (y : Y) : Type 0 where
  pub source : X
  pub at : slice_get xs i ≡ Some source
  pub is : y ≡ f source

pub image : {X Y : Type 0} (f : X → Y) (xs : List X) (i : ℕ) (y : Y) → slice_get (map f xs) i ≡ Some y → IsImage f xs i y
image f [] i y h = absurd (let e = h in cc)
image f (x ∷ xs) zero y h = record { source = x; at = refl; is = (let e : f x ≡ y = cc in sym e) }
image f (x ∷ xs) (suc i) y h = let w = image f xs i y h in record { source = w.source; at = w.at; is = w.is }

-- ---- the records

abbrev pub delivery_of : Record → Delivery
delivery_of (records.Text text) = Text text
delivery_of (records.Batch texts) = Batch texts
delivery_of records.Close = Closed

abbrev pub answer_of : Record → Verdict
answer_of r = Ok (delivery_of r)

pub same_record : (r : Record) → record_of (delivery_of r) ≡ r
same_record (records.Text text) = refl
same_record (records.Batch texts) = refl
same_record records.Close = refl

pub records_of-answers : (rs : List Record) → records_of (map answer_of rs) ≡ rs
records_of-answers [] = refl
records_of-answers (records.Text text ∷ rs) = ap (λ z. records.Text text ∷ z) (records_of-answers rs)
records_of-answers (records.Batch texts ∷ rs) = ap (λ z. records.Batch texts ∷ z) (records_of-answers rs)
records_of-answers (records.Close ∷ rs) = ap (λ z. records.Close ∷ z) (records_of-answers rs)

-- where each accepted record is the one of its number, the records are a prefix
pub records_from : (carried : List Record) (vs : List Verdict) (c : ℕ)
    → ((i : ℕ) (d : Delivery) → slice_get vs i ≡ Some (Ok d) → slice_get carried (c + length (records_of (take i vs))) ≡ Some (record_of d))
    → IsPrefix (records_of vs) (drop c carried)
records_from carried [] c h = (drop c carried, refl)
records_from carried (Ok d ∷ vs) c h =
    let zero_more : c + 0 ≡ c = omega arith in
    let at : slice_get carried c ≡ Some (record_of d) = rw zero_more at (h 0 d refl) in
    let w = records_from carried vs (suc c) (λ i e is.
    let n : suc c + length (records_of (take i vs)) ≡ c + suc (length (records_of (take i vs))) = omega arith in
    rw n (h (suc i) e is)) in
    (w.0, drop_get carried c (record_of d) at ∙ ap (λ z. record_of d ∷ z) w.1)
records_from carried (Err refusal ∷ vs) c h = records_from carried vs c (λ i e is. h (suc i) e is)

-- what is delivered are the texts of the records that are accepted
texts_by : (v : Verdict) → texts_in (events_by v) ≡ flat_map texts_of (accepted_by v)
texts_by (Ok (Text text)) = refl
texts_by (Ok (Batch texts)) = texts_in-texts texts ∙ sym (append-nil texts)
texts_by (Ok Closed) = refl
texts_by (Err refusal) = refl

pub delivered_texts : (vs : List Verdict) → delivered vs ≡ flat_map texts_of (records_of vs)
delivered_texts [] = refl
delivered_texts (v ∷ vs) =
    texts_in-append (events_by v) (events_from vs)
    ∙ (ap₂ (λ xs ys. xs ++ ys) (texts_by v) (delivered_texts vs) ∙ sym (flat_map-append texts_of (accepted_by v) (records_of vs)))
