-- What a log keeps beside its entries, when texts of a lane are added.
use Rattle.std.proofs.Common.{◌≡◌, ◌≢◌, ℕ, zero, ◌+◌, ◌<◌, ◌==◌, cond, if◌then◌else◌, ◌||◌, Bool, true, false, suc, List, [], ◌∷◌, ◌++◌, length, map, get_or, set, refl, sym, ap, ◌∙◌, arith, inl, inr, append_assoc, get_or-set_same, get_or-set_other}
use Rattle.std.specs.List.{range_with_len}
use Rattle.std.proofs.lemmas.List.{append-nil, length-map, map-set, get_or-map}
use Rattle.std.proofs.lemmas.Bool.Decides.{eqb_tells}
use Rattle.krb_peers.specs.declared.log.Event.TheVariants.{Text}
use Rattle.krb_peers.specs.declared.log.Entry.{Entry}
use Rattle.krb_peers.specs.Log.{events_of, entries_for, has_closed, is_closed}
use Rattle.krb_peers.specs.LogIndex.{text_place, places_from, IsIndexed}
use Rattle.std.proofs.Math.Bool.{or-false}
use Rattle.krb_peers.proofs.LoggedLemmas.{events_of-append, has_closed-append}

places_from-append : (place lane : ℕ) (xs ys : List Entry) → places_from place lane (xs ++ ys) ≡ places_from place lane xs ++ places_from (place + length xs) lane ys
places_from-append place lane [] ys = let e : place + 0 ≡ place = omega arith in rw e refl
places_from-append place lane (x ∷ xs) ys =
    let here : List ℕ = if x.lane == lane then text_place place x.event else [] in
    let e : place + 1 + length xs ≡ place + suc (length xs) = omega arith in
    ap (λ r. here ++ r) (places_from-append (place + 1) lane xs ys)
    ∙ rw e (sym (append_assoc here (places_from (place + 1) lane xs) (places_from (place + suc (length xs)) lane ys)))

abbrev no_places : List ℕ
no_places = []

-- the places of texts of one lane are one after the other
places_of_texts : (place number lane : ℕ) (texts : List (List ℕ)) → places_from place lane (entries_for number (map Text texts)) ≡ (if number == lane then range_with_len place (length texts) else [])
places_of_texts place number lane [] = elim (number == lane) as (λ b. no_places ≡ cond b (range_with_len place 0) no_places) [ true ↦ refl | false ↦ refl ]
places_of_texts place number lane (t ∷ ts) =
    ap (λ r. cond (number == lane) (place ∷ []) [] ++ r) (places_of_texts (place + 1) number lane ts)
    ∙ elim (number == lane) as (λ b. cond b (place ∷ []) [] ++ cond b (range_with_len (place + 1) (length ts)) [] ≡ cond b (place ∷ range_with_len (place + 1) (length ts)) []) [
      | true ↦ refl
      | false ↦ refl
    ]

-- texts close nothing
open_texts : (number lane : ℕ) (texts : List (List ℕ)) → has_closed (events_of lane (entries_for number (map Text texts))) ≡ false
open_texts number lane [] = refl
open_texts number lane (t ∷ ts) =
    let rest = events_of lane (entries_for number (map Text ts)) in
    elim (number == lane) as (λ b. has_closed (cond b (Text t ∷ rest) rest) ≡ false) [
      | true ↦ open_texts number lane ts
      | false ↦ open_texts number lane ts
    ]

is_closed-texts : (number lane : ℕ) (entries : List Entry) (texts : List (List ℕ)) → is_closed lane (entries ++ entries_for number (map Text texts)) ≡ is_closed lane entries
is_closed-texts number lane entries texts =
    let more = entries_for number (map Text texts) in
    ap has_closed (events_of-append lane entries more)
    ∙ (has_closed-append (events_of lane entries) (events_of lane more)
    ∙ (ap (λ b. has_closed (events_of lane entries) || b) (open_texts number lane texts) ∙ or-false (is_closed lane entries)))

-- texts more: their places are added to those of their lane
pub indexed_texts : {V : Type 0} (places : V → List ℕ) (lanes : ℕ) (entries : List Entry) (lane : ℕ) (texts : List (List ℕ)) (vecs : List V) (vec d : V) (closed : List Bool)
    → lane < length vecs → places vec ≡ places (get_or vecs lane d) ++ range_with_len (length entries) (length texts) → IsIndexed lanes entries (map places vecs) closed
    → IsIndexed lanes (entries ++ entries_for lane (map Text texts)) (map places (set vecs lane vec)) closed
indexed_texts places lanes entries lane texts vecs vec d closed within is_vec is =
    let more = entries_for lane (map Text texts) in
    let mapped : lane < length (map places vecs) = rw length-map within in
    let held : get_or (map places vecs) lane [] ≡ places (get_or vecs lane d) = get_or-map places vecs lane d [] within in
    let zero_first : 0 + length entries ≡ length entries = omega arith in
    record {
      few = is.few;
      places = λ other small.
          let grown : places_from 0 other (entries ++ more) ≡ places_from 0 other entries ++ cond (lane == other) (range_with_len (length entries) (length texts)) [] =
          places_from-append 0 other entries more ∙ ap (λ r. places_from 0 other entries ++ r) (ap (λ n. places_from n other more) zero_first ∙ places_of_texts (length entries) lane other texts) in
          rw (map-set places vecs lane vec, grown) (elim (eqb_tells lane other) [
            | inl same ↦
                rw (same.0, ← same.1) (get_or-set_same (map places vecs) lane (places vec) [] mapped
                ∙ (is_vec ∙ ap (λ r. r ++ range_with_len (length entries) (length texts)) (sym held ∙ is.places lane (rw same.1 small))))
            | inr off ↦
                let apart : other ≢ lane = λ e. off.1 (sym e) in
                rw (off.0, append-nil) (get_or-set_other (map places vecs) lane other (places vec) [] apart ∙ is.places other small)
          ]);
      closes = λ other small. is.closes other small ∙ sym (is_closed-texts lane other entries texts);
    }

-- one place more
pub place_more : (first count : ℕ) → range_with_len first (count + 1) ≡ range_with_len first count ++ (first + count) ∷ []
place_more first zero = let e : first ≡ first + 0 = omega arith in ap (λ n. n ∷ []) e
place_more first (suc count) =
    let more : suc count + 1 ≡ suc (count + 1) = omega arith in
    let e : first + 1 + count ≡ first + suc count = omega arith in
    ap (λ n. range_with_len first n) more ∙ ap (λ r. first ∷ r) (place_more (first + 1) count ∙ ap (λ n. range_with_len (first + 1) count ++ n ∷ []) e)

pub place_pushed : (old now next : List ℕ) (first count : ℕ) → next ≡ now ++ (first + count) ∷ [] → now ≡ old ++ range_with_len first count → next ≡ old ++ range_with_len first (count + 1)
place_pushed old now next first count pushed so_far =
    pushed ∙ (ap (λ l. l ++ (first + count) ∷ []) so_far
    ∙ (append_assoc old (range_with_len first count) ((first + count) ∷ []) ∙ ap (λ l. old ++ l) (sym (place_more first count))))
