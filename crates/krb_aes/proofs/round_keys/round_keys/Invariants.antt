use Rattle.std.proofs.Common.{◌≡◌, ℕ, ◌*◌, ◌%◌, ◌<◌, [], get_or, map, length}
use Rattle.krb_aes.specs.Nibbles.{nibbles_of, bare_nibbles}
use Rattle.krb_aes.specs.Rounds.{rows_shifted, columns_raised, round_key}
use Rattle.krb_aes.proofs.round_keys.round_keys.Given as goal

abbrev pub invariant-loop-n : goal.invariant-loop-n
invariant-loop-n l = (length l.keys ≡ 15) × (get_or l.keys 0 [] ≡ map nibbles_of (round_key l.w 0))
    × ((j : ℕ) → 0 < j → j < l.n → get_or l.keys j [] ≡ map bare_nibbles (rows_shifted (3 * j % 4) (columns_raised (round_key l.w j))))
