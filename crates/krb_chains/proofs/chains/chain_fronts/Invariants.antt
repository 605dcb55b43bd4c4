use Rattle.std.proofs.Common.{◌≡◌, ℕ, List, ◌*◌, take, drop, replicate}
use Rattle.krb_aes.specs.Chain.{IsChained}
use Rattle.krb_aes.specs.Rounds.{AreRoundKeys}
use Rattle.krb_chains.proofs.chains.chain_fronts.Given as goal

abbrev pub invariant-loop-i : goal.invariant-loop-i
invariant-loop-i l =
    ((w : List ℕ) → AreRoundKeys l.keys l.turns w
    → IsChained w (replicate 16 0) (take (16 * l.i) l.fn.a) (take (16 * l.i) l.a) (take 16 l.state) × (drop (16 * l.i) l.a ≡ drop (16 * l.i) l.fn.a))
    × ((w : List ℕ) → AreRoundKeys l.keys l.turns w
    → IsChained w (replicate 16 0) (take (16 * l.i) l.fn.b) (take (16 * l.i) l.b) (drop 16 l.state) × (drop (16 * l.i) l.b ≡ drop (16 * l.i) l.fn.b))
    × ((w : List ℕ) → AreRoundKeys l.keys l.turns w
    → IsChained w (replicate 16 0) (take (16 * l.i) l.fn.c) (take (16 * l.i) l.c) (take 16 l.other) × (drop (16 * l.i) l.c ≡ drop (16 * l.i) l.fn.c))
    × ((w : List ℕ) → AreRoundKeys l.keys l.turns w
    → IsChained w (replicate 16 0) (take (16 * l.i) l.fn.d) (take (16 * l.i) l.d) (drop 16 l.other) × (drop (16 * l.i) l.d ≡ drop (16 * l.i) l.fn.d))
