-- The end of a message and its padding, and the blocks of both.
use Rattle.std.proofs.Common.{◌≡◌, ℕ, ◌+◌, ◌-◌, ◌*◌, ◌/◌, ◌%◌, ◌^◌, ◌<◌, ◌≤◌, List, ◌∷◌, ◌++◌, length, take, drop, replicate, arith, refl, ap, sym, ◌∙◌}
use Rattle.std.specs.Int.{w64, to_be_bytes}
use Rattle.std.proofs.lemmas.List.{length-append, take_all, take_at, append_assoc, length-drop, length-take, length-replicate, drop-append-le, take-append-le, drop-take, drop-drop, take-take}
use Rattle.std.proofs.lemmas.Slice.{take-put_mid}
use borrow.Rule.Slice.PartMut.{put_mid, post_of}
use Rattle.sha1.specs.Sha1.{padding}
use Rattle.sha1.proofs.Absorbing.{padding-take}
use Rattle.krb_digests.specs.Rest.{padded_rest, rest_block, rest_blocks}
use Rattle.krb_digests.specs.RestInside.{padded_end}

-- three parts, written one after another
pub three_parts : (left pad bits zeros : List ℕ) (size k l : ℕ) → length bits ≡ 8 → size ≡ length left + length pad + 8
    → take size (put_mid (size - 8) k (put_mid (length left) l (left ++ zeros) pad) bits) ≡ left ++ (pad ++ bits)
three_parts left pad bits zeros size k l eight sum =
    let rest : List ℕ = post_of (length left) l (left ++ zeros) in
    let first : take (length left) (left ++ zeros) ≡ left = take_at left zeros (length left) refl in
    let written : put_mid (length left) l (left ++ zeros) pad ≡ left ++ (pad ++ rest) = rw first refl in
    let long : length (left ++ (pad ++ rest)) ≡ length left + (length pad + length rest) =
    length-append left (pad ++ rest) ∙ ap (λ n. length left + n) (length-append pad rest) in
    let both : length (left ++ pad) ≡ length left + length pad = length-append left pad in
    let before : take (size - 8) (put_mid (length left) l (left ++ zeros) pad) ≡ left ++ pad =
    rw (written, ← append_assoc left pad rest) (take_at (left ++ pad) rest (size - 8) (omega arith)) in
    take-put_mid (size - 8) k (put_mid (length left) l (left ++ zeros) pad) bits size (omega arith) (rw written (omega arith))
    ∙ rw before (append_assoc left pad bits)

-- the padding's first bytes, cut
pub cut_padding : (size used : ℕ) → used + 9 ≤ size → size ≤ used + 72
    → take {A = ℕ} (size - 8 - used) (0x80 ∷ replicate 63 0) ≡ 0x80 ∷ replicate (size - 9 - used) 0
cut_padding size used room near =
    let one : size - 8 - used ≡ size - 9 - used + 1 = omega arith in
    rw one (padding-take 0x80 0 (size - 9 - used) (omega arith))

-- what is left of a message after its whole blocks
abbrev left_of : List ℕ → List ℕ
left_of rest = take (length rest - length rest / 64 * 64) (drop (length rest / 64 * 64) rest)

left_is : (rest : List ℕ) → left_of rest ≡ drop (length rest / 64 * 64) rest
left_is rest =
    take_all (length rest - length rest / 64 * 64) (drop (length rest / 64 * 64) rest) (omega (arith, length-drop (length rest / 64 * 64) rest))

pub length-left : (rest : List ℕ) → length (left_of rest) ≡ length rest % 64
length-left rest = ap length (left_is rest) ∙ omega (arith, length-drop (length rest / 64 * 64) rest)

-- the end of a message, in one block or in two
pub end_is : (rest bits : List ℕ) (size : ℕ)
    → bits ≡ to_be_bytes w64 ((length rest + 64) % 2 ^ 64 * 8 % 2 ^ 64)
    → size - 9 - length (left_of rest) ≡ (119 - length rest % 64) % 64
    → left_of rest ++ 0x80 ∷ (replicate (size - 9 - length (left_of rest)) 0 ++ bits) ≡ padded_end rest
end_is rest bits size is_bits zeros =
    let same : (64 + length rest) % 64 ≡ length rest % 64 = omega arith in
    let many : (length rest + 64) % 2 ^ 64 * 8 % 2 ^ 64 ≡ (64 + length rest) * 8 % 2 ^ 64 = omega arith in
    rw (zeros, left_is rest, is_bits, many, ← same)
    (sym (drop-append-le (length rest / 64 * 64) rest (padding (64 + length rest)) (omega arith)))

-- how many blocks follow the first
length-padding : (n : ℕ) → length (padding n) ≡ 9 + (119 - n % 64) % 64
length-padding n =
    let zeros : List ℕ = 0x80 ∷ replicate ((119 - n % 64) % 64) 0 in
    omega (arith, length-append zeros (to_be_bytes w64 (n * 8 % 2 ^ 64)), length-replicate {A = ℕ} ((119 - n % 64) % 64) 0)

pub length-padded : (rest : List ℕ) → length (padded_rest rest) ≡ 64 * (length rest / 64 + (length rest % 64 + 72) / 64)
length-padded rest =
    omega (arith, length-append rest (padding (64 + length rest)), length-padding (64 + length rest))

-- a whole block of the rest
pub whole_block : (rest : List ℕ) (n : ℕ) → n < length rest / 64 → take 64 (drop (64 * n) rest) ≡ rest_block rest n
whole_block rest n h =
    let pad = padding (64 + length rest) in
    let at : 64 * n ≡ n * 64 = omega arith in
    let long : 64 ≤ length (drop (n * 64) rest) = omega (arith, length-drop (n * 64) rest) in
    rw (at, drop-append-le (n * 64) rest pad (omega arith)) (sym (take-append-le 64 (drop (n * 64) rest) pad long))

-- which block of the end block n is, and that it is there
pub end_room : (rest bytes : List ℕ) (size n : ℕ) → take size bytes ≡ padded_end rest → length rest / 64 ≤ n
    → n < rest_blocks rest → 64 * (n - length rest / 64) + 64 ≤ size
end_room rest bytes size n held low high =
    let long : length (padded_end rest) ≤ size = rw (← held) (omega (arith, length-take size bytes)) in
    omega (arith, long, length-drop (length rest / 64 * 64) (padded_rest rest), length-padded rest)

-- a block of the end
pub end_block : (rest bytes : List ℕ) (size n : ℕ) → take size bytes ≡ padded_end rest → length rest / 64 ≤ n
    → n < rest_blocks rest → take 64 (drop (64 * (n - length rest / 64)) bytes) ≡ rest_block rest n
end_block rest bytes size n held low high =
    let k = 64 * (n - length rest / 64) in
    let room : k + 64 ≤ size = end_room rest bytes size n held low high in
    let parts : k + (size - k) ≡ size = omega arith in
    let at : length rest / 64 * 64 + k ≡ n * 64 = omega arith in
    let cut : drop k (take size bytes) ≡ take (size - k) (drop k bytes) = rw parts at (drop-take k (size - k) bytes) in
    let same : drop k (padded_end rest) ≡ drop (n * 64) (padded_rest rest) = rw at at (drop-drop k (length rest / 64 * 64) (padded_rest rest)) in
    sym (take-take 64 (size - k) (drop k bytes) (omega arith))
    ∙ ap (λ (xs : List ℕ). take 64 xs) (sym cut ∙ ap (λ (xs : List ℕ). drop k xs) held ∙ same)
