-- What the code of n-fold computes byte by byte: the repetitions of a text as a stream, and a sum
-- of two.
use Rattle.std.specs.Prelude.{ℕ, zero, suc, ◌+◌, ◌-◌, ◌*◌, ◌/◌, ◌%◌, ◌^◌, nat_lt, List, length}
use Rattle.std.specs.Prelude.{slice_index, if◌then◌else◌}

-- byte j of a text rotated right by r bits
unfoldable pub rotated_byte : List ℕ → ℕ → ℕ → ℕ
rotated_byte text r j =
    let len = length text in
    let s = 8 * len - r % (8 * len) + 8 * j in
    (slice_index text (s / 8 % len) * 256 + slice_index text ((s / 8 + 1) % len))
    / 2 ^ (8 - s % 8) % 256

-- byte t of the repetitions of a text
unfoldable pub stream_byte : List ℕ → ℕ → ℕ
stream_byte text t = rotated_byte text (13 * (t / length text)) (t % length text)

-- the number of the first n bytes of a stream
unfoldable pub value : (ℕ → ℕ) → ℕ → ℕ
value f zero = 0
value f (suc n) = value f n * 256 + f n

-- a sum of two numbers of n bytes, with its carry added at the low end
abbrev pub around : ℕ → ℕ → ℕ
around n sum = if nat_lt sum (256 ^ n) then sum else sum - (256 ^ n - 1)
