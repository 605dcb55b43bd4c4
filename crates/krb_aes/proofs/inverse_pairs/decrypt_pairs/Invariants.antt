use Rattle.std.proofs.Common.{◌≡◌, ℕ, List, ◌*◌, ◌-◌}
use Rattle.krb_aes.specs.Rounds.{AreInverseRoundKeys}
use Rattle.krb_aes.specs.Words.{IsBlock}
use Rattle.krb_aes.specs.Pairs.{pair}
use Rattle.krb_aes.proofs.PairRounds.{AreOpening}
use Rattle.krb_aes.proofs.inverse_pairs.decrypt_pairs.Given as goal

abbrev pub invariant-loop-i : goal.invariant-loop-i
invariant-loop-i l =
    ((w a b : List ℕ) → AreInverseRoundKeys l.keys l.turns w → IsBlock a → IsBlock b → l.fn.one ≡ pair a b → AreOpening w (4 * (l.turns - l.i)) 1 a b l.first)
    × ((w a b : List ℕ) → AreInverseRoundKeys l.keys l.turns w → IsBlock a → IsBlock b → l.fn.other ≡ pair a b → AreOpening w (4 * (l.turns - l.i)) 1 a b l.second)
