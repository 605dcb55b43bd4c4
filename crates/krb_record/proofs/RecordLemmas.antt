-- Answers about the bytes of records.
use Rattle.std.proofs.Common.{◌≡◌, ◌≤◌, ◌↔◌, Bool, List, [], ◌∷◌, ℕ, length, drop, Result, Ok, Err, IsErrAnd, IfOk, refl, sym, ap, subst, ◌∙◌, arith}
use Rattle.std.proofs.lemmas.Bool.{le-leb, leb-true}
use Rattle.std.specs.Prelude.{IsTrue, MatchResult, nat_le}
use Rattle.krb_record.specs.Batch.{SpellsBatch}
use Rattle.krb_record.proofs.BatchLemmas.{one_batch, short_batch}
use Rattle.krb_record.specs.declared.record.Record.{Record}
use Rattle.krb_record.specs.declared.record.RecordError.{RecordError}
use Rattle.krb_record.specs.declared.record.RecordError.TheVariants.{BadRecord, Memory}
use Rattle.krb_record.specs.declared.record.Record.TheVariants.{Text, Batch, Close}
use Rattle.krb_base.specs.Limits.{text_limit, user_data_limit}
use Rattle.krb_record.specs.declared.record.RecordKind.{RecordKind}
use Rattle.krb_record.specs.declared.record.RecordKind.TheVariants as kinds
use Rattle.krb_record.specs.Record.{SpellsRecord, first_byte_of, kind_of}

-- an answer is BadRecord exactly where the bytes are those of no record
abbrev pub IsBadExactly : Result Record RecordError → List ℕ → Type 0
IsBadExactly answer bytes = (answer ≡ Err BadRecord) ↔ ((r : Record) → SpellsRecord r bytes → ⊥)

-- a record is no wrong answer where the bytes are those of one
pub bad-ok : (got : Record) (bytes : List ℕ) (r : Record) → SpellsRecord r bytes → IsBadExactly (Ok got) bytes
bad-ok got bytes r spells = (λ is. absurd (let e = is in cc), λ none. absurd (none r spells))

-- nor is want of memory
pub bad-memory : (answer : Result Record RecordError) (bytes : List ℕ) (r : Record) → SpellsRecord r bytes → IsErrAnd answer (λ e. e ≡ Memory) → IsBadExactly answer bytes
bad-memory (Ok got) bytes r spells is = absurd is
bad-memory (Err e) bytes r spells is = (λ bad. absurd (let both = bad in let same : e ≡ Memory = is in cc), λ none. absurd (none r spells))

-- lists that are equal begin alike
pub same_first : (a b : ℕ) (xs ys : List ℕ) → a ∷ xs ≡ b ∷ ys → a ≡ b
same_first a b xs ys is = cc

-- no bytes are those of two records
pub one_record : (bytes : List ℕ) (r s : Record) → SpellsRecord r bytes → SpellsRecord s bytes → r ≡ s
one_record bytes (Text t) (Text u) r s = (let e = sym r.1 ∙ s.1 in let same : t ≡ u = cc in ap Text same)
one_record bytes (Text t) (Batch us) r s = absurd (omega (arith, same_first 0x44 0x42 t _ (sym r.1 ∙ s.1)))
one_record bytes (Text t) Close r s = absurd (omega (arith, same_first 0x44 0x43 t [] (sym r.1 ∙ s.1)))
one_record bytes (Batch ts) (Text u) r s = absurd (omega (arith, same_first 0x42 0x44 _ u (sym r.1 ∙ s.1)))
one_record bytes (Batch ts) (Batch us) r s = ap Batch (one_batch ts us bytes r s)
one_record bytes (Batch ts) Close r s = absurd (omega (arith, same_first 0x42 0x43 _ [] (sym r.1 ∙ s.1)))
one_record bytes Close (Text u) r s = absurd (omega (arith, same_first 0x43 0x44 [] u (sym r.1 ∙ s.1)))
one_record bytes Close (Batch us) r s = absurd (omega (arith, same_first 0x43 0x42 [] _ (sym r.1 ∙ s.1)))
one_record bytes Close Close r s = refl

-- no record is longer than the user data
pub short_record : (bytes : List ℕ) (r : Record) → SpellsRecord r bytes → length bytes ≤ user_data_limit
short_record bytes (Text t) spells = rw spells.1 (omega (arith, spells.0))
short_record bytes (Batch ts) spells = short_batch ts bytes spells
short_record bytes Close spells = rw spells.1 (omega arith)

-- ---- bytes that are neither a text nor the close

pub record IsOther (bytes : List ℕ) : Type 0 where
  pub no_text : (text : List ℕ) → length text ≤ text_limit → bytes ≡ 0x44 ∷ text → ⊥
  pub no_close : bytes ≡ 0x43 ∷ [] → ⊥

-- what is answered of them, by what is answered of a batch
module _ (bytes : List ℕ) (other : IsOther bytes) where
  -- they are no other record
  none_but : ((texts : List (List ℕ)) → SpellsBatch texts bytes → ⊥) → (r : Record) → SpellsRecord r bytes → ⊥
  none_but none (Text text) spells = other.no_text text spells.0 spells.1
  none_but none (Batch texts) spells = none texts spells
  none_but none Close spells = other.no_close spells.1

  pub batch_only : (answer : Result Record RecordError)
      → IfOk answer (λ r. (texts : List (List ℕ)) × (r ≡ Batch texts) × SpellsBatch texts bytes)
      → (answer ≡ Err BadRecord → (texts : List (List ℕ)) → SpellsBatch texts bytes → ⊥)
      → (r : Record) → SpellsRecord r bytes → MatchResult answer (λ got. got ≡ r) (λ e. e ≡ Memory)
  batch_only (Ok got) ok bad r spells =
      let P : Record → Type 0 = λ x. SpellsRecord x bytes in
      one_record bytes got r (subst P (sym ok.1) ok.2) spells
  batch_only (Err BadRecord) ok bad r spells = absurd (none_but (bad refl) r spells)
  batch_only (Err Memory) ok bad r spells = refl

  pub batch_bad : (answer : Result Record RecordError)
      → (answer ≡ Err BadRecord) ↔ ((texts : List (List ℕ)) → SpellsBatch texts bytes → ⊥) → IsBadExactly answer bytes
  batch_bad answer bad = (λ is. none_but (bad.0 is), λ none. bad.1 (λ texts spells. none (Batch texts) spells))

-- bytes of another tag, a text that is too long, and a close with more after it are other bytes
pub other_by : (tag : ℕ) (rest : List ℕ) → (tag ≡ 0x44 → length rest ≤ text_limit → ⊥) → (tag ≡ 0x43 → rest ≡ [] → ⊥) → IsOther (tag ∷ rest)
other_by tag rest no_text no_close = record {
  no_text = λ text short e. (
      let f = e in
      let same : tag ≡ 0x44 = cc in
      let tail : rest ≡ text = cc in
      let n : length rest ≡ length text = ap length tail in
      no_text same (omega (arith, n, short)));
  no_close = λ e. (
      let f = e in
      let same : tag ≡ 0x43 = cc in
      let tail : rest ≡ [] = cc in
      no_close same tail);
}

-- ---- the bytes after the first

-- a record of a kind has these bytes after its first
abbrev pub Has : RecordKind → List ℕ → Type 0
Has kind body = (r : Record) × (kind ≡ kind_of r) × SpellsRecord r (first_byte_of kind ∷ body)

text_only : (body : List ℕ) (r : Record) → kinds.Text ≡ kind_of r → SpellsRecord r (0x44 ∷ body) → length body ≤ text_limit
text_only body (Text text) e s = let tail : body ≡ text = ap (λ l. drop 1 l) s.1 in omega (arith, ap length tail, s.0)
text_only body (Batch texts) e s = absurd cc
text_only body Close e s = absurd cc

pub text_has : (kind : RecordKind) (body : List ℕ) → kind ≡ kinds.Text → IsTrue (nat_le (length body) text_limit) ↔ Has kind body
text_has kind body e = rw e (
  λ t. (Text body, refl, (leb-true (length body) text_limit t, refl)),
  λ h. le-leb (length body) text_limit (text_only body h.0 h.1 h.2),
)

batch_only_of : (body : List ℕ) (r : Record) → kinds.Batch ≡ kind_of r → SpellsRecord r (0x42 ∷ body) → (texts : List (List ℕ)) × SpellsBatch texts (0x42 ∷ body)
batch_only_of body (Text text) e s = absurd cc
batch_only_of body (Batch texts) e s = (texts, s)
batch_only_of body Close e s = absurd cc

pub batch_has : (kind : RecordKind) (body : List ℕ) (is : Bool) → kind ≡ kinds.Batch → (IsTrue is ↔ ((texts : List (List ℕ)) × SpellsBatch texts (0x42 ∷ body))) → IsTrue is ↔ Has kind body
batch_has kind body is e h = rw e (
  λ t. (let f = h.0 t in (Batch f.0, refl, f.1)),
  λ g. h.1 (batch_only_of body g.0 g.1 g.2),
)
