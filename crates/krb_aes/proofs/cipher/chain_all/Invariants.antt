use Rattle.std.proofs.Common.{◌≡◌, ℕ, List, ◌*◌, take, drop}
use Rattle.krb_aes.specs.Chain.{IsChained}
use Rattle.krb_aes.specs.Rounds.{AreRoundKeys}
use Rattle.krb_aes.proofs.cipher.chain_all.Given as goal

abbrev pub invariant-loop-i : goal.invariant-loop-i
invariant-loop-i l = (w : List ℕ) → AreRoundKeys l.keys l.turns w
    → IsChained w l.fn.state (take (16 * l.i) l.fn.text) (take (16 * l.i) l.text) l.last × (drop (16 * l.i) l.text ≡ drop (16 * l.i) l.fn.text)
