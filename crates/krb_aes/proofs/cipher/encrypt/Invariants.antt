use Rattle.std.proofs.Common.{◌≡◌, ℕ, ◌+◌, ◌*◌, List, map}
use Rattle.krb_aes.specs.Cipher.{after_rounds}
use Rattle.krb_aes.specs.Nibbles.{nibbles_of}
use Rattle.krb_aes.specs.Rounds.{rows_shifted, AreRoundKeys}
use Rattle.krb_aes.proofs.cipher.encrypt.Given as goal

abbrev pub invariant-loop-n : goal.invariant-loop-n
invariant-loop-n l = (w : List ℕ) → AreRoundKeys l.keys l.turns w → l.x ≡ map nibbles_of (rows_shifted 3 (after_rounds w (4 * l.n + 1) l.fn.block))
