use Rattle.std.proofs.Common.{◌≡◌, ℕ, ◌+◌, ◌*◌, ◌%◌, ◌<◌, [], get_or, map, length}
use Rattle.krb_aes.specs.InverseCipher.{inv_mix_columns}
use Rattle.krb_aes.specs.Nibbles.{inv_affine_nibbles}
use Rattle.krb_aes.specs.Rounds.{rows_shifted, columns_raised, round_key}
use Rattle.krb_aes.proofs.round_keys.inverse_round_keys.Given as goal

abbrev pub invariant-loop-n : goal.invariant-loop-n
invariant-loop-n l = (length l.keys ≡ 15) × (get_or l.keys 0 [] ≡ round_key l.w 0)
    × ((j : ℕ) → 0 < j → j < l.n → get_or l.keys j [] ≡ map inv_affine_nibbles (rows_shifted (3 * (j + 2) % 4) (columns_raised (inv_mix_columns (round_key l.w j)))))
