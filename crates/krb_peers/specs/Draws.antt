-- What a ChaCha20 generator gives from its present state, and the confounders (RFC 3961 section
-- 5.3) made of it. How they are drawn is this project's own.
use Rattle.std.specs.Prelude.{ℕ, zero, suc, ◌+◌, ◌*◌, ◌%◌, ◌^◌, List, ◌++◌}
use Rattle.std.specs.Int.{w32, to_le_bytes}
use Rattle.rand_chacha.specs.ChaCha.{ChaCha, word_at}

-- the next word, of 32 bits, as four bytes, least significant first
unfoldable pub word_bytes : ChaCha → List ℕ
word_bytes g = to_le_bytes w32 (word_at 10 g.key g.stream g.word_pos)

-- the generator after its next word
unfoldable pub after_word : ChaCha → ChaCha
after_word g = record g { word_pos = (g.word_pos + 1) % 2 ^ 68 }

-- the generator after its next n words
abbrev pub after_words : ℕ → ChaCha → ChaCha
after_words zero g = g
after_words (suc n) g = after_words n (after_word g)

-- word i, from 0 on
abbrev pub word_from : ChaCha → ℕ → List ℕ
word_from g i = word_bytes (after_words i g)

-- confounder k: the words 4k to 4k + 3, in order
abbrev pub confounder_at : ChaCha → ℕ → List ℕ
confounder_at g k =
    word_from g (4 * k) ++ word_from g (4 * k + 1) ++ word_from g (4 * k + 2)
    ++ word_from g (4 * k + 3)
