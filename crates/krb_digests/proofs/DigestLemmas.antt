-- The digest of a block and a rest, from the hash value after the block.
use Rattle.std.proofs.Common.{◌≡◌, ℕ, ◌+◌, ◌*◌, ◌/◌, List, ◌++◌, length, take, drop, arith, refl, add-one}
use Rattle.std.proofs.lemmas.List.{length-append, append_assoc, take_at, drop_at, drop-drop}
use Rattle.sha1.specs.Sha1.{compress, digest_bytes, hash_after, padded_message, padding, sha1}
use Rattle.krb_digests.specs.Rest.{after_block, padded_rest, rest_block, rest_blocks}

-- the message with its padding
padded_is : (block rest : List ℕ) → length block ≡ 64 → padded_message (block ++ rest) ≡ block ++ padded_rest rest
padded_is block rest size =
    let long : length (block ++ rest) ≡ 64 + length rest = rw size at (length-append block rest) in
    rw (long) (append_assoc block rest (padding (64 + length rest)))

-- the hash value after the first block
pub hash_first : (block rest : List ℕ) → length block ≡ 64 → after_block block ≡ hash_after (padded_message (block ++ rest)) 1
unfolding hash_after
hash_first block rest size =
    rw (padded_is block rest size, take_at block (padded_rest rest) 64 size) refl

hash_more : (p : List ℕ) (n : ℕ) → compress (hash_after p n) (take 64 (drop (n * 64) p)) ≡ hash_after p (n + 1)
unfolding hash_after
hash_more p n = rw add-one refl

block_is : (block rest : List ℕ) (n : ℕ) → length block ≡ 64
    → take 64 (drop ((n + 1) * 64) (padded_message (block ++ rest))) ≡ rest_block rest n
block_is block rest n size =
    let at : (n + 1) * 64 ≡ 64 + n * 64 = omega arith in
    rw (padded_is block rest size, at, ← drop-drop (n * 64) 64 (block ++ padded_rest rest), drop_at block (padded_rest rest) 64 size) refl

-- each block more
pub hash_next : (block rest : List ℕ) (n : ℕ) → length block ≡ 64
    → compress (hash_after (padded_message (block ++ rest)) (n + 1)) (rest_block rest n) ≡ hash_after (padded_message (block ++ rest)) (n + 1 + 1)
hash_next block rest n size = rw (← block_is block rest n size) (hash_more (padded_message (block ++ rest)) (n + 1))

-- and all
pub digest_is : (block rest : List ℕ) (n : ℕ) → length block ≡ 64 → rest_blocks rest ≡ n
    → digest_bytes (hash_after (padded_message (block ++ rest)) (n + 1)) 5 ≡ sha1 (block ++ rest)
unfolding sha1
digest_is block rest n size all =
    let long : length (block ++ padded_rest rest) ≡ 64 + length (padded_rest rest) = rw size at (length-append block (padded_rest rest)) in
    let count : length (padded_message (block ++ rest)) / 64 ≡ n + 1 = rw (padded_is block rest size) (omega (arith, long, all)) in
    rw count refl
