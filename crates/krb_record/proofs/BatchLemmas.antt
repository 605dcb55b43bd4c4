-- The bytes of texts have one reading.
use Rattle.std.proofs.Common.{◌≡◌, ℕ, ◌+◌, ◌<◌, ◌≤◌, ◌^◌, List, [], ◌∷◌, ◌++◌, length, take, drop, refl, sym, ap, ap₂, subst, ◌∙◌, append_assoc, append-nil, arith, length-append}
use Rattle.std.specs.Prelude.{All}
use Rattle.std.specs.List.{flat_map}
use Rattle.std.specs.Int.{w32, to_be_bytes, from_be_bytes}
use Rattle.std.proofs.lemmas.List.{take_at, drop_at}
use Rattle.std.proofs.lemmas.List.Elements.{All-nil, All-cons}
use Rattle.std.proofs.lemmas.List.Sums.{sum_by-cons}
use Rattle.std.proofs.lemmas.Nat.{from_be_bytes-to_be_bytes_4}
use Rattle.krb_base.specs.Limits.{text_limit, user_data_limit, batch_limit, batch_size_limit}
use Rattle.krb_record.specs.Batch.{texts_size, text_bytes, IsBatch, SpellsBatch}

-- the bytes that a text takes in a batch
abbrev pub text_size : List ℕ → ℕ
text_size text = 4 + length text

pub length-text : (text : List ℕ) → length (text_bytes text) ≡ text_size text
length-text text = omega (arith, length-append (to_be_bytes w32 (length text)) text)

-- texts have as many bytes as their size says
pub length-texts : (texts : List (List ℕ)) → length (flat_map text_bytes texts) ≡ texts_size texts
length-texts [] = refl
length-texts (t ∷ ts) = omega (arith, length-append (text_bytes t) (flat_map text_bytes ts), length-text t, length-texts ts, sum_by-cons text_size t ts)

-- no more texts than bytes
pub few_texts : (texts : List (List ℕ)) → length texts ≤ texts_size texts
few_texts [] = omega arith
few_texts (t ∷ ts) = omega (arith, sum_by-cons text_size t ts, few_texts ts)

-- lists that are equal, and are cut alike
pub same_parts : {X : Type 0} (a b x y : List X) → length a ≡ length b → a ++ x ≡ b ++ y → (a ≡ b) × (x ≡ y)
same_parts a b x y len e = (
  sym (take_at a x (length a) refl) ∙ (ap (λ l. take (length a) l) e ∙ take_at b y (length a) (sym len)),
  sym (drop_at a x (length a) refl) ∙ (ap (λ l. drop (length a) l) e ∙ drop_at b y (length a) (sym len)),
)

-- no text begins another
one_text : (t o x y : List ℕ) → length t < 2 ^ 32 → length o < 2 ^ 32 → text_bytes t ++ x ≡ text_bytes o ++ y → (t ≡ o) × (x ≡ y)
one_text t o x y lt lo e =
    let front : List ℕ = to_be_bytes w32 (length t) in
    let other : List ℕ = to_be_bytes w32 (length o) in
    let p = same_parts front other (t ++ x) (o ++ y) refl (sym (append_assoc front t x) ∙ (e ∙ append_assoc other o y)) in
    let len : length t ≡ length o = sym (from_be_bytes-to_be_bytes_4 (length t) lt) ∙ (ap (λ l. from_be_bytes w32 l) p.0 ∙ from_be_bytes-to_be_bytes_4 (length o) lo) in
    same_parts t o x y len p.1

-- of the same bytes, the texts read so far begin all others
split_front : (texts others : List (List ℕ)) (rest : List ℕ) → texts_size others < 2 ^ 32 → flat_map text_bytes texts ++ rest ≡ flat_map text_bytes others → (more : List (List ℕ)) × (others ≡ texts ++ more) × (rest ≡ flat_map text_bytes more)
split_front [] others rest small e = (others, refl, e)
split_front (t ∷ ts) [] rest small e =
    let n : length (flat_map text_bytes (t ∷ ts) ++ rest) ≡ 0 = ap length e in
    absurd (omega (arith, n, length-append (flat_map text_bytes (t ∷ ts)) rest, length-texts (t ∷ ts), sum_by-cons text_size t ts))
split_front (t ∷ ts) (o ∷ os) rest small e =
    let n : length (flat_map text_bytes (t ∷ ts) ++ rest) ≡ length (flat_map text_bytes (o ∷ os)) = ap length e in
    let sizes = sum_by-cons text_size o os in
    let st : length t < 2 ^ 32 = omega (arith, n, small, length-append (flat_map text_bytes (t ∷ ts)) rest, length-texts (t ∷ ts), length-texts (o ∷ os), sum_by-cons text_size t ts) in
    let so : length o < 2 ^ 32 = omega (arith, small, sizes) in
    let one = one_text t o (flat_map text_bytes ts ++ rest) (flat_map text_bytes os) st so (sym (append_assoc (text_bytes t) (flat_map text_bytes ts) rest) ∙ e) in
    let r = split_front ts os rest (omega (arith, small, sizes)) one.1 in
    (r.0, ap₂ (λ a b. a ∷ b) (sym one.0) r.1, r.2)

-- a text more is read
pub texts_more : (bytes : List ℕ) (texts : List (List ℕ)) (rest t after : List ℕ) → bytes ≡ flat_map text_bytes texts ++ rest → rest ≡ text_bytes t ++ after → bytes ≡ flat_map text_bytes (texts ++ t ∷ []) ++ after
texts_more bytes texts rest t after e f = e ∙ (ap (λ l. flat_map text_bytes texts ++ l) f ∙ (sym (append_assoc (flat_map text_bytes texts) (text_bytes t) after) ∙ ap (λ l. l ++ after) (regrouped texts t)))
  where
    regrouped : (ts : List (List ℕ)) (u : List ℕ) → flat_map text_bytes ts ++ text_bytes u ≡ flat_map text_bytes (ts ++ u ∷ [])
    regrouped [] u = sym (append-nil (text_bytes u))
    regrouped (x ∷ ts) u = append_assoc (text_bytes x) (flat_map text_bytes ts) (text_bytes u) ∙ ap (λ l. text_bytes x ++ l) (regrouped ts u)

-- where no text stands in front of the rest, no other texts are these bytes
pub no_more : (bytes rest : List ℕ) (texts others : List (List ℕ)) → length bytes ≤ batch_size_limit → bytes ≡ flat_map text_bytes texts ++ rest → ((text after : List ℕ) → length text < 2 ^ 32 → rest ≡ text_bytes text ++ after → ⊥) → bytes ≡ flat_map text_bytes others → (others ≡ texts) × (rest ≡ [])
no_more bytes rest texts others short e none f =
    let n : length bytes ≡ length (flat_map text_bytes others) = ap length f in
    let small : texts_size others < 2 ^ 32 = omega (arith, n, short, length-texts others) in
    let r = split_front texts others rest small (sym e ∙ f) in
    let m : length rest ≤ length bytes = let q = ap length e in omega (arith, q, length-append (flat_map text_bytes texts) rest) in
    ended r.0 (omega (arith, m, short)) r.1 r.2
  where
    ended : (more : List (List ℕ)) → length rest < 2 ^ 32 → others ≡ texts ++ more → rest ≡ flat_map text_bytes more → (others ≡ texts) × (rest ≡ [])
    ended [] lt o e = (o ∙ append-nil texts, e)
    ended (t ∷ ts) lt o e =
        let q : length rest ≡ length (flat_map text_bytes (t ∷ ts)) = ap length e in
        absurd (none t (flat_map text_bytes ts) (omega (arith, q, lt, length-texts (t ∷ ts), sum_by-cons text_size t ts)) e)

-- the same bytes are one list of texts
pub one_reading : (bytes : List ℕ) (texts others : List (List ℕ)) → length bytes ≤ batch_size_limit → bytes ≡ flat_map text_bytes texts → bytes ≡ flat_map text_bytes others → others ≡ texts
one_reading bytes texts others short e f =
    (no_more bytes [] texts others short (e ∙ sym (append-nil (flat_map text_bytes texts))) none f).0
  where
    none : (text after : List ℕ) → length text < 2 ^ 32 → [] ≡ text_bytes text ++ after → ⊥
    none text after lt g =
        let n : 0 ≡ length (text_bytes text ++ after) = ap length g in
        omega (arith, n, length-append (text_bytes text) after, length-text text)

-- one batch for a spelling
pub one_batch : (texts others : List (List ℕ)) (bytes : List ℕ) → SpellsBatch texts bytes → SpellsBatch others bytes → texts ≡ others
one_batch texts others bytes a b =
    let small = b.0.small in
    let tails : flat_map text_bytes others ≡ flat_map text_bytes texts = ap (λ l. drop 1 l) (sym b.1 ∙ a.1) in
    one_reading (flat_map text_bytes others) others texts (omega (arith, small, length-texts others)) refl tails

-- these bytes are no other texts than these: where they are too few or too many, there is no batch
pub no_batch : (body : List ℕ) (texts others : List (List ℕ)) → length body ≤ batch_size_limit → body ≡ flat_map text_bytes texts → IsBatch others → body ≡ flat_map text_bytes others → IsBatch texts
no_batch body texts others short is batch e = subst IsBatch (one_reading body texts others short is e) batch

-- a batch isn't larger than one may be
pub small_batch : (body : List ℕ) (texts : List (List ℕ)) → IsBatch texts → body ≡ flat_map text_bytes texts → length body ≤ batch_size_limit
small_batch body texts batch e =
    let small = batch.small in
    let n : length body ≡ length (flat_map text_bytes texts) = ap length e in
    omega (arith, n, length-texts texts, small)

pub is_batch : (body : List ℕ) (texts : List (List ℕ)) → length body ≤ batch_size_limit → body ≡ flat_map text_bytes texts → 2 ≤ length texts → length texts ≤ batch_limit → IsBatch texts
is_batch body texts short is several few = record {
  several = several;
  few = few;
  small = let n : length body ≡ length (flat_map text_bytes texts) = ap length is in omega (arith, n, short, length-texts texts);
}

-- the bytes after the first of a spelling
pub spells_after : (body : List ℕ) (texts : List (List ℕ)) → body ≡ flat_map text_bytes texts → IsBatch texts → SpellsBatch texts (0x42 ∷ body)
spells_after body texts is batch = (batch, ap (λ l. 0x42 ∷ l) is)

pub after_first : (body : List ℕ) (texts : List (List ℕ)) → SpellsBatch texts (0x42 ∷ body) → body ≡ flat_map text_bytes texts
after_first body texts spells = ap (λ l. drop 1 l) spells.1

-- so many texts have as many bytes and more
pub counted : (bytes : List ℕ) (texts : List (List ℕ)) (rest : List ℕ) → bytes ≡ flat_map text_bytes texts ++ rest → length texts ≤ length bytes
counted bytes texts rest e =
    let n : length bytes ≡ length (flat_map text_bytes texts ++ rest) = ap length e in
    omega (arith, n, length-append (flat_map text_bytes texts) rest, length-texts texts, few_texts texts)

pub short_batch : (texts : List (List ℕ)) (bytes : List ℕ) → SpellsBatch texts bytes → length bytes ≤ user_data_limit
short_batch texts bytes s =
    let small = s.0.small in
    rw s.1 (omega (arith, small, length-texts texts))

pub short_texts : (texts : List (List ℕ)) → texts_size texts ≤ batch_size_limit → All (λ text. length text ≤ text_limit) texts
short_texts [] h = All-nil (λ text. length text ≤ text_limit)
short_texts (t ∷ ts) h =
    let sizes = sum_by-cons text_size t ts in
    All-cons (λ text. length text ≤ text_limit) t ts (omega (arith, h, sizes)) (short_texts ts (omega (arith, h, sizes)))
