-- What a log keeps beside its entries, as they grow and as they are read.
use Rattle.std.proofs.Common.{◌≡◌, ◌≢◌, ℕ, ◌+◌, ◌<◌, ◌==◌, cond, if◌then◌else◌, ◌||◌, Bool, true, false, zero, suc, List, [], ◌∷◌, ◌++◌, length, map, get_or, set, Some, slice_get, refl, sym, ap, ◌∙◌, arith, inl, inr, append_assoc, get_or-set_same, get_or-set_other}
use Rattle.std.proofs.lemmas.List.{append-nil, length-map, map-set, get_or-map}
use Rattle.std.proofs.Math.Seq.{map-set_same}
use Rattle.std.proofs.lemmas.Option.{slice_get_within, get_or_from_slice_get, slice_get-get_or}
use Rattle.std.proofs.lemmas.Bool.Decides.{eqb_tells}
use Rattle.krb_base.specs.Limits.{lane_limit}
use Rattle.krb_seal.specs.declared.refusal.Refusal.{Refusal}
use Rattle.krb_peers.specs.declared.log.Event.{Event}
use Rattle.krb_peers.specs.declared.log.Event.TheVariants.{Text, Closed, Refused}
use Rattle.krb_peers.specs.declared.log.Entry.{Entry}
use Rattle.krb_peers.specs.Log.{events_of, texts_in, texts_of, has_closed, is_closed}
use Rattle.krb_peers.specs.LogIndex.{text_place, places_from, IsIndexed}
use Rattle.std.proofs.Math.Bool.{or-false, or-true, or_assoc}

-- the place that an entry adds to those of a lane's texts
abbrev added_place : ℕ → ℕ → Entry → List ℕ
added_place place lane entry = if entry.lane == lane then text_place place entry.event else []

-- whether an event is a close
abbrev closes : Event → Bool
closes (Text text) = false
closes Closed = true
closes (Refused refusal) = false

-- whether an entry closes a lane
abbrev closes_lane : ℕ → Entry → Bool
closes_lane lane entry = if entry.lane == lane then closes entry.event else false

places_from-push : (place lane : ℕ) (entries : List Entry) (entry : Entry)
    → places_from place lane (entries ++ entry ∷ []) ≡ places_from place lane entries ++ added_place (place + length entries) lane entry
places_from-push place lane [] entry =
    let e : place + 0 ≡ place = omega arith in rw e (append-nil (added_place place lane entry))
places_from-push place lane (x ∷ entries) entry =
    let e : place + 1 + length entries ≡ place + suc (length entries) = omega arith in
    ap (λ r. added_place place lane x ++ r) (places_from-push (place + 1) lane entries entry)
    ∙ rw e (sym (append_assoc (added_place place lane x) (places_from (place + 1) lane entries) (added_place (place + suc (length entries)) lane entry)))

has_closed-cons : (event : Event) (events : List Event) → has_closed (event ∷ events) ≡ (closes event || has_closed events)
has_closed-cons (Text text) events = refl
has_closed-cons Closed events = refl
has_closed-cons (Refused refusal) events = refl

is_closed-cons : (lane : ℕ) (x : Entry) (entries : List Entry) → is_closed lane (x ∷ entries) ≡ (closes_lane lane x || is_closed lane entries)
is_closed-cons lane x entries =
    elim (x.lane == lane) as (λ b. has_closed (cond b (x.event ∷ events_of lane entries) (events_of lane entries)) ≡ (cond b (closes x.event) false || is_closed lane entries)) [
      | true ↦ has_closed-cons x.event (events_of lane entries)
      | false ↦ refl
    ]

is_closed-push : (lane : ℕ) (entries : List Entry) (entry : Entry) → is_closed lane (entries ++ entry ∷ []) ≡ (is_closed lane entries || closes_lane lane entry)
is_closed-push lane [] entry = is_closed-cons lane entry [] ∙ or-false (closes_lane lane entry)
is_closed-push lane (x ∷ entries) entry =
    is_closed-cons lane x (entries ++ entry ∷ [])
    ∙ (ap (λ b. closes_lane lane x || b) (is_closed-push lane entries entry)
    ∙ (sym (or_assoc (closes_lane lane x) (is_closed lane entries) (closes_lane lane entry))
    ∙ ap (λ b. b || closes_lane lane entry) (sym (is_closed-cons lane x entries))))

either : {X : Type 0} (b : Bool) (x : X) → cond b x x ≡ x
either true x = refl
either false x = refl

-- at one lane, what stands beside the entries follows one entry more
pub record Follows (entries : List Entry) (entry : Entry) (texts texts' : List (List ℕ)) (closed closed' : List Bool) (lane : ℕ) : Type 0 where
  pub places : get_or texts' lane [] ≡ get_or texts lane [] ++ added_place (length entries) lane entry
  pub closes : get_or closed' lane false ≡ (get_or closed lane false || closes_lane lane entry)

indexed_with : (lanes : ℕ) (entries : List Entry) (entry : Entry) (texts texts' : List (List ℕ)) (closed closed' : List Bool)
    → IsIndexed lanes entries texts closed
    → ((lane : ℕ) → lane < lane_limit → Follows entries entry texts texts' closed closed' lane)
    → IsIndexed lanes (entries ++ entry ∷ []) texts' closed'
indexed_with lanes entries entry texts texts' closed closed' is follows = record {
  few = is.few;
  places = λ lane small.
      let zero_first : 0 + length entries ≡ length entries = omega arith in
      (follows lane small).places ∙ (ap (λ r. r ++ added_place (length entries) lane entry) (is.places lane small) ∙ sym (rw zero_first at (places_from-push 0 lane entries entry)));
  closes = λ lane small. (follows lane small).closes ∙ (ap (λ b. b || closes_lane lane entry) (is.closes lane small) ∙ sym (is_closed-push lane entries entry));
}

-- a text more: its place is added to those of its lane
pub indexed_text : (lanes : ℕ) (entries : List Entry) (lane : ℕ) (text : List ℕ) (texts : List (List ℕ)) (closed : List Bool)
    → lane < length texts → IsIndexed lanes entries texts closed
    → IsIndexed lanes (entries ++ record { lane = lane; event = Text text } ∷ []) (set texts lane (get_or texts lane [] ++ length entries ∷ [])) closed
indexed_text lanes entries lane text texts closed within is =
    let now : List (List ℕ) = set texts lane (get_or texts lane [] ++ length entries ∷ []) in
    let at : (k : ℕ) → Follows entries (record { lane = lane; event = Text text }) texts now closed closed k = λ k.
    elim (eqb_tells lane k) [
      | inl same ↦ record {
        places = rw same.0 (rw (← same.1) (get_or-set_same texts lane (get_or texts lane [] ++ length entries ∷ []) [] within));
        closes = rw same.0 (sym (or-false (get_or closed k false)));
      }
      | inr other ↦
          let apart : k ≢ lane = λ e. other.1 (sym e) in
          record {
            places = rw (other.0, append-nil) (get_or-set_other texts lane k (get_or texts lane [] ++ length entries ∷ []) [] apart);
            closes = rw other.0 (sym (or-false (get_or closed k false)));
          }
    ] in
    indexed_with lanes entries (record { lane = lane; event = Text text }) texts now closed closed is (λ k small. at k)

-- the same, where the places stand in vectors
pub indexed_vecs : {V : Type 0} (places : V → List ℕ) (lanes : ℕ) (entries : List Entry) (lane : ℕ) (text : List ℕ) (vecs : List V) (vec d : V) (closed : List Bool)
    → lane < length vecs → places vec ≡ places (get_or vecs lane d) ++ length entries ∷ [] → IsIndexed lanes entries (map places vecs) closed
    → IsIndexed lanes (entries ++ record { lane = lane; event = Text text } ∷ []) (map places (set vecs lane vec)) closed
indexed_vecs places lanes entries lane text vecs vec d closed within is_vec is =
    let mapped : lane < length (map places vecs) = rw length-map within in
    let same : get_or (map places vecs) lane [] ≡ places (get_or vecs lane d) = get_or-map places vecs lane d [] within in
    rw (map-set places vecs lane vec, is_vec, ← same) (indexed_text lanes entries lane text (map places vecs) closed mapped is)

-- a vector with the same places changes nothing
pub same_vecs : {V : Type 0} (places : V → List ℕ) (vecs : List V) (lane : ℕ) (vec d : V) → places vec ≡ places (get_or vecs lane d) → map places (set vecs lane vec) ≡ map places vecs
same_vecs places vecs lane vec d same = map-set_same places vecs lane vec d same

-- a close more: its lane is marked
pub indexed_closed : (lanes : ℕ) (entries : List Entry) (lane : ℕ) (texts : List (List ℕ)) (closed : List Bool)
    → lane < length closed → IsIndexed lanes entries texts closed
    → IsIndexed lanes (entries ++ record { lane = lane; event = Closed } ∷ []) texts (set closed lane true)
indexed_closed lanes entries lane texts closed within is =
    let entry : Entry = record { lane = lane; event = Closed } in
    let at : (k : ℕ) → Follows entries entry texts texts closed (set closed lane true) k = λ k.
    elim (eqb_tells lane k) [
      | inl same ↦ record {
        places = rw same.0 (sym (append-nil (get_or texts k [])));
        closes = rw same.0 (rw (← same.1) (get_or-set_same closed lane true false within ∙ sym (or-true (get_or closed lane false))));
      }
      | inr other ↦
          let apart : k ≢ lane = λ e. other.1 (sym e) in
          record {
            places = rw other.0 (sym (append-nil (get_or texts k [])));
            closes = rw (other.0, or-false (get_or closed k false)) (get_or-set_other closed lane k true false apart);
          }
    ] in
    indexed_with lanes entries entry texts texts closed (set closed lane true) is (λ k small. at k)

-- a refusal more: nothing else changes
pub indexed_refused : (lanes : ℕ) (entries : List Entry) (lane : ℕ) (refusal : Refusal) (texts : List (List ℕ)) (closed : List Bool)
    → IsIndexed lanes entries texts closed
    → IsIndexed lanes (entries ++ record { lane = lane; event = Refused refusal } ∷ []) texts closed
indexed_refused lanes entries lane refusal texts closed is =
    let entry : Entry = record { lane = lane; event = Refused refusal } in
    let at : (k : ℕ) → Follows entries entry texts texts closed closed k = λ k. record {
      places = rw either (sym (append-nil (get_or texts k [])));
      closes = rw either (sym (or-false (get_or closed k false)));
    } in
    indexed_with lanes entries entry texts texts closed closed is (λ k small. at k)

-- the places are as many as the texts
length_here : (b : Bool) (place : ℕ) (event : Event) (events : List Event) (places : List ℕ) → length places ≡ length (texts_in events)
    → length (cond b (text_place place event) [] ++ places) ≡ length (texts_in (cond b (event ∷ events) events))
length_here true place (Text text) events places same = ap suc same
length_here true place Closed events places same = same
length_here true place (Refused refusal) events places same = same
length_here false place event events places same = same

pub length-places_from : (place lane : ℕ) (entries : List Entry) → length (places_from place lane entries) ≡ length (texts_of lane entries)
length-places_from place lane [] = refl
length-places_from place lane (x ∷ entries) =
    length_here (x.lane == lane) place x.event (events_of lane entries) (places_from (place + 1) lane entries) (length-places_from (place + 1) lane entries)

-- among entries, of which the first stands at `first`, an entry at this place holds this text
pub record HoldsText (first : ℕ) (entries : List Entry) (place : ℕ) (text : List ℕ) : Type 0 where
  pub index : ℕ
  pub place_is : place ≡ first + index
  pub entry : Entry
  pub at : slice_get entries index ≡ Some entry
  pub event_is : entry.event ≡ Text text

-- and it is the text of this number
pub record IsTextAt (first : ℕ) (entries : List Entry) (texts : List (List ℕ)) (i place : ℕ) : Type 0 where
  pub text : List ℕ
  pub holds : HoldsText first entries place text
  pub found : slice_get texts i ≡ Some text

holds_after : (first : ℕ) (x : Entry) (entries : List Entry) (place : ℕ) (text : List ℕ) → HoldsText (first + 1) entries place text → HoldsText first (x ∷ entries) place text
holds_after first x entries place text h = record { index = suc h.index; place_is = (let e = h.place_is in omega arith); entry = h.entry; at = h.at; event_is = h.event_is }

text_after : (first : ℕ) (x : Entry) (entries : List Entry) (texts : List (List ℕ)) (i place : ℕ) → IsTextAt (first + 1) entries texts i place → IsTextAt first (x ∷ entries) texts i place
text_after first x entries texts i place h = record { text = h.text; holds = holds_after first x entries place h.text h.holds; found = h.found }

text_here : (b : Bool) (first lane : ℕ) (x : Entry) (event : Event) (entries : List Entry) → x.event ≡ event
    → ((i place : ℕ) → slice_get (places_from (first + 1) lane entries) i ≡ Some place → IsTextAt (first + 1) entries (texts_of lane entries) i place)
    → (i place : ℕ) → slice_get (cond b (text_place first event) [] ++ places_from (first + 1) lane entries) i ≡ Some place
    → IsTextAt first (x ∷ entries) (texts_in (cond b (event ∷ events_of lane entries) (events_of lane entries))) i place
text_here true first lane x (Text text) entries is following zero place h =
    let e : first ≡ place = cc in
    record {
      text = text;
      holds = record { index = 0; place_is = omega arith; entry = x; at = refl; event_is = is };
      found = refl;
    }
text_here true first lane x (Text text) entries is following (suc i) place h =
    let w = following i place h in
    record { text = w.text; holds = holds_after first x entries place w.text w.holds; found = w.found }
text_here true first lane x Closed entries is following i place h = text_after first x entries (texts_of lane entries) i place (following i place h)
text_here true first lane x (Refused refusal) entries is following i place h = text_after first x entries (texts_of lane entries) i place (following i place h)
text_here false first lane x event entries is following i place h = text_after first x entries (texts_of lane entries) i place (following i place h)

-- a place that is kept is that of the text of its number
pub text_at : (first lane : ℕ) (entries : List Entry) (i place : ℕ) → slice_get (places_from first lane entries) i ≡ Some place → IsTextAt first entries (texts_of lane entries) i place
text_at first lane [] i place h = absurd (let e = h in cc)
text_at first lane (x ∷ entries) i place h =
    text_here (x.lane == lane) first lane x x.event entries refl (λ j p. text_at (first + 1) lane entries j p) i place h

-- the vector that is read at a lane has the places of its texts
pub places_read : {V : Type 0} (places : V → List ℕ) (lanes : ℕ) (entries : List Entry) (vecs : List V) (closed : List Bool) (lane : ℕ) (vec : V)
    → lane < length vecs → lane < lane_limit → vec ≡ get_or vecs lane vec → IsIndexed lanes entries (map places vecs) closed → places vec ≡ places_from 0 lane entries
places_read places lanes entries vecs closed lane vec within small read is =
    ap places read ∙ (sym (get_or-map places vecs lane vec [] within) ∙ is.places lane small)

pub IsTextAt-below : (entries : List Entry) (texts : List (List ℕ)) (i place : ℕ) → IsTextAt 0 entries texts i place → place < length entries
IsTextAt-below entries texts i place h =
    let below : h.holds.index < length entries = slice_get_within entries h.holds.index h.holds.entry h.holds.at in
    let e = h.holds.place_is in omega arith

-- the entry that is read there is that text
pub IsTextAt-event : (entries : List Entry) (texts : List (List ℕ)) (i place : ℕ) (entry : Entry) → (h : IsTextAt 0 entries texts i place)
    → entry ≡ get_or entries place entry → entry.event ≡ Text h.text
IsTextAt-event entries texts i place entry h read =
    let same : place ≡ h.holds.index = (let e = h.holds.place_is in omega arith) in
    let at : slice_get entries place ≡ Some h.holds.entry = rw same h.holds.at in
    ap (λ x. x.event) (read ∙ get_or_from_slice_get entries place h.holds.entry entry at) ∙ h.holds.event_is

pub text_found : (entries : List Entry) (texts : List (List ℕ)) (i place : ℕ) (entry : Entry) (text : List ℕ) → IsTextAt 0 entries texts i place
    → entry ≡ get_or entries place entry → entry.event ≡ Text text → Some text ≡ slice_get texts i
text_found entries texts i place entry text h read event_is =
    let e = IsTextAt-event entries texts i place entry h read in
    let same : text ≡ h.text = cc in
    rw same (sym h.found)

pub text_not_closed : (entries : List Entry) (texts : List (List ℕ)) (i place : ℕ) (entry : Entry) → IsTextAt 0 entries texts i place
    → entry ≡ get_or entries place entry → entry.event ≡ Closed → ⊥
text_not_closed entries texts i place entry h read event_is =
    let e = IsTextAt-event entries texts i place entry h read in cc

pub text_not_refused : (entries : List Entry) (texts : List (List ℕ)) (i place : ℕ) (entry : Entry) (refusal : Refusal) → IsTextAt 0 entries texts i place
    → entry ≡ get_or entries place entry → entry.event ≡ Refused refusal → ⊥
text_not_refused entries texts i place entry refusal h read event_is =
    let e = IsTextAt-event entries texts i place entry h read in cc

-- so what is read there is the place of a text
pub text_read : {V : Type 0} (places : V → List ℕ) (lanes : ℕ) (entries : List Entry) (vecs : List V) (closed : List Bool) (lane : ℕ) (vec : V) (i place : ℕ)
    → lane < length vecs → lane < lane_limit → vec ≡ get_or vecs lane vec → IsIndexed lanes entries (map places vecs) closed
    → i < length (places vec) → place ≡ get_or (places vec) i place → IsTextAt 0 entries (texts_of lane entries) i place
text_read places lanes entries vecs closed lane vec i place within small read is below at =
    let some : slice_get (places vec) i ≡ Some (get_or (places vec) i place) = slice_get-get_or (places vec) i place below in
    text_at 0 lane entries i place (ap (λ xs. slice_get xs i) (sym (places_read places lanes entries vecs closed lane vec within small read is)) ∙ (some ∙ ap (λ p. Some p) (sym at)))
