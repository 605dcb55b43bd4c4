-- n-fold (RFC 3961, section 5.1), on whole numbers. A text of bytes is also a number: its bytes are
-- the digits in base 256, the highest first. The lengths of texts are in bytes, those of numbers in
-- bits.
use Rattle.std.specs.Prelude.{ℕ, zero, suc, ◌+◌, ◌-◌, ◌*◌, ◌/◌, ◌%◌, ◌^◌, ◌==◌, List, [], ◌∷◌}
use Rattle.std.specs.Prelude.{length, map, unwrap_or, if◌then◌else◌}
use Rattle.std.specs.Int.{◌∣◌, bytes_high_first}
use Rattle.std.specs.List.{find, range_with_len}

-- the number of a text
unfoldable pub number : List ℕ → ℕ
number [] = 0
number (x ∷ xs) = x * 256 ^ length xs + number xs

-- the least common multiple of two positive numbers: the first of a, 2 a, .., b a that b divides
unfoldable pub lcm : ℕ → ℕ → ℕ
lcm a b = unwrap_or (find (λ c. c % b == 0) (map (λ m. m * a) (range_with_len 1 b))) (b * a)

-- both numbers divide l, and l divides each number that both divide
abbrev pub IsLcm : ℕ → ℕ → ℕ → Type 0
IsLcm a b l = (a ∣ l) × (b ∣ l) × ((c : ℕ) → a ∣ c → b ∣ c → l ∣ c)

-- a number of k bits, rotated right by r bits
unfoldable pub rotated : ℕ → ℕ → ℕ → ℕ
rotated k r x = x / 2 ^ (r % k) + x % 2 ^ (r % k) * 2 ^ (k - r % k)

-- the first m repetitions of a number of k bits, each rotated by 13 bits more than the one before,
-- joined
unfoldable pub repeated : ℕ → ℕ → ℕ → ℕ
repeated k x zero = 0
repeated k x (suc m) = repeated k x m * 2 ^ k + rotated k (13 * m) x

-- the sum of the last m pieces of n bits
unfoldable pub sum_of_pieces : ℕ → ℕ → ℕ → ℕ
sum_of_pieces n zero x = 0
sum_of_pieces n (suc m) x = x % 2 ^ n + sum_of_pieces n m (x / 2 ^ n)

-- a sum of numbers of n bits, its carries added at the low end: the sum modulo 2 ^ n - 1, where a
-- positive multiple is written as all ones
unfoldable pub end_around : ℕ → ℕ → ℕ
end_around n sum = if sum == 0 then 0 else (sum - 1) % (2 ^ n - 1) + 1

-- n-fold of a text to n bytes: the text is repeated to the least common multiple of both lengths,
-- and the pieces of n bytes are added
unfoldable pub nfold : ℕ → List ℕ → List ℕ
nfold n text =
    let len = length text in
    let whole = lcm len n in
    let repetitions = repeated (8 * len) (number text) (whole / len) in
    bytes_high_first n (end_around (8 * n) (sum_of_pieces (8 * n) (whole / n) repetitions))
