-- The batch that is found is the one that the bytes are of.
use Rattle.std.proofs.Common.{◌≡◌, ℕ, zero, suc, ◌<◌, ◌≤◌, ◌&&◌, ◌^◌, Bool, true, false, nat_le, cond, List, [], ◌∷◌, ◌++◌, length, take, drop, Some, None, refl, sym, ap, ap₂, subst, ◌∙◌, arith}
use Rattle.std.specs.List.{flat_map}
use Rattle.std.specs.Int.{w32, to_be_bytes, from_be_bytes}
use Rattle.std.specs.Str.{bytes_eq}
use Rattle.std.proofs.lemmas.Bool.{and_from, and_parts, leb-true, le-leb}
use Rattle.std.proofs.lemmas.List.{take_at, drop_at}
use Rattle.std.proofs.lemmas.List.Sums.{sum_by-cons}
use Rattle.std.proofs.lemmas.Nat.{from_be_bytes-to_be_bytes_4}
use Rattle.std.proofs.lemmas.Slice.Eq.{bytes_eq-Decides}
use Rattle.krb_base.specs.Limits.{batch_limit, batch_size_limit}
use Rattle.krb_record.specs.Batch.{texts_size, text_bytes, spelling, IsBatch, SpellsBatch}
use Rattle.krb_record.specs.Reading.{texts_in, can_be_batch, if_spelt, batch_in}
use Rattle.krb_record.proofs.BatchLemmas.{text_size, length-texts, few_texts}

-- texts that are spelt are read again
read_again : (n : ℕ) (texts : List (List ℕ)) → length texts ≤ n → texts_size texts < 2 ^ 32 → texts_in n (flat_map text_bytes texts) ≡ texts
read_again zero [] few small = refl
read_again (suc n) [] few small = refl
read_again zero (t ∷ ts) few small = absurd (omega (arith, few))
read_again (suc n) (t ∷ ts) few small =
    let sizes = sum_by-cons text_size t ts in
    let rest : List ℕ = flat_map text_bytes ts in
    let len : from_be_bytes w32 (to_be_bytes w32 (length t)) ≡ length t = from_be_bytes-to_be_bytes_4 (length t) (omega (arith, small, sizes)) in
    let tail = read_again n ts (omega (arith, few)) (omega (arith, small, sizes)) in
    let P : ℕ → Type 0 = λ k. take k (t ++ rest) ∷ texts_in n (drop k (t ++ rest)) ≡ t ∷ ts in
    subst P (sym len) (ap₂ (λ x xs. x ∷ xs) (take_at t rest (length t) refl) (ap (λ l. texts_in n l) (drop_at t rest (length t) refl) ∙ tail))

-- the test of texts is right
batch_by_test : (texts : List (List ℕ)) → can_be_batch texts ≡ true → IsBatch texts
batch_by_test texts h =
    let a = and_parts (nat_le 2 (length texts)) (nat_le (length texts) batch_limit && nat_le (texts_size texts) batch_size_limit) h in
    let b = and_parts (nat_le (length texts) batch_limit) (nat_le (texts_size texts) batch_size_limit) a.1 in
    record {
      several = leb-true 2 (length texts) a.0;
      few = leb-true (length texts) batch_limit b.0;
      small = leb-true (texts_size texts) batch_size_limit b.1;
    }

test_by_batch : (texts : List (List ℕ)) → IsBatch texts → can_be_batch texts ≡ true
test_by_batch texts is =
    and_from (nat_le 2 (length texts)) (nat_le (length texts) batch_limit && nat_le (texts_size texts) batch_size_limit)
    (le-leb 2 (length texts) is.several)
    (and_from (nat_le (length texts) batch_limit) (nat_le (texts_size texts) batch_size_limit) (le-leb (length texts) batch_limit is.few) (le-leb (texts_size texts) batch_size_limit is.small))

-- what is found is spelt
spelt_by : (bytes : List ℕ) (texts found : List (List ℕ)) (passes : Bool) → (can_be_batch texts && bytes_eq bytes (spelling texts)) ≡ passes
    → cond passes (Some texts) None ≡ Some found → SpellsBatch found bytes
spelt_by bytes texts found true is h =
    let same : texts ≡ found = cc in
    let both = and_parts (can_be_batch texts) (bytes_eq bytes (spelling texts)) is in
    let P : List (List ℕ) → Type 0 = λ l. SpellsBatch l bytes in
    subst P same (batch_by_test texts both.0, (bytes_eq-Decides bytes (spelling texts)).0 both.1)
spelt_by bytes texts found false is h = absurd (let e = h in cc)

pub found_is_spelt : (texts : List (List ℕ)) (bytes : List ℕ) → batch_in bytes ≡ Some texts → SpellsBatch texts bytes
found_is_spelt texts bytes h =
    let read = texts_in (length bytes) (drop 1 bytes) in
    spelt_by bytes read texts (can_be_batch read && bytes_eq bytes (spelling read)) refl h

-- and what is spelt is found
pub spelt_is_found : (texts : List (List ℕ)) (bytes : List ℕ) → SpellsBatch texts bytes → batch_in bytes ≡ Some texts
spelt_is_found texts bytes spells =
    let small = spells.0.small in
    let tail : drop 1 bytes ≡ flat_map text_bytes texts = ap (λ l. drop 1 l) spells.1 in
    let n : length bytes ≡ length (spelling texts) = ap length spells.1 in
    let few : length texts ≤ length bytes = omega (arith, n, length-texts texts, few_texts texts) in
    let read : texts_in (length bytes) (drop 1 bytes) ≡ texts = ap (λ l. texts_in (length bytes) l) tail ∙ read_again (length bytes) texts few (omega (arith, small)) in
    let passes : (can_be_batch texts && bytes_eq bytes (spelling texts)) ≡ true = and_from (can_be_batch texts) (bytes_eq bytes (spelling texts)) (test_by_batch texts spells.0) ((bytes_eq-Decides bytes (spelling texts)).1 spells.1) in
    ap (λ l. if_spelt bytes l) read ∙ rw passes refl
