use Rattle.std.proofs.Common.{ℕ, List, ◌*◌, ◌-◌}
use Rattle.krb_aes.specs.Rounds.{AreInverseRoundKeys}
use Rattle.krb_aes.proofs.InverseRounds.{IsOpening}
use Rattle.krb_aes.proofs.inverse_cipher.decrypt.Given as goal

abbrev pub invariant-loop-i : goal.invariant-loop-i
invariant-loop-i l = (w : List ℕ) → AreInverseRoundKeys l.keys l.turns w → IsOpening w (4 * (l.turns - l.i)) 1 l.fn.block l.x
