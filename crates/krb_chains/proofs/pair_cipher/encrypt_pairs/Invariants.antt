use Rattle.std.proofs.Common.{◌≡◌, ℕ, List, ◌+◌, ◌*◌, map}
use Rattle.krb_aes.specs.Cipher.{after_rounds}
use Rattle.krb_aes.specs.Nibbles.{nibbles_of}
use Rattle.krb_aes.specs.Rounds.{AreRoundKeys, rows_shifted}
use Rattle.krb_aes.specs.Words.{IsBlock}
use Rattle.krb_aes.specs.Pairs.{pair}
use Rattle.krb_chains.proofs.pair_cipher.encrypt_pairs.Given as goal

abbrev pub invariant-loop-n : goal.invariant-loop-n
invariant-loop-n l =
    ((w a b : List ℕ) → AreRoundKeys l.keys l.turns w → IsBlock a → IsBlock b → l.fn.one ≡ pair a b
    → l.first ≡ map nibbles_of (pair (rows_shifted 3 (after_rounds w (4 * l.n + 1) a)) (rows_shifted 3 (after_rounds w (4 * l.n + 1) b))))
    × ((w a b : List ℕ) → AreRoundKeys l.keys l.turns w → IsBlock a → IsBlock b → l.fn.other ≡ pair a b
    → l.second ≡ map nibbles_of (pair (rows_shifted 3 (after_rounds w (4 * l.n + 1) a)) (rows_shifted 3 (after_rounds w (4 * l.n + 1) b))))
