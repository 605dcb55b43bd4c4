use Rattle.std.proofs.Common.{[], ◌∷◌, refl, arith}
use Rattle.krb_aes.specs.Rounds.{rows_shifted, columns_raised}
use Rattle.krb_aes.proofs.RoundKeyLemmas.{turned_lanes}
use Rattle.krb_aes.proofs.round_keys.arranged.Goals as goal

pub returns-then-n-eq0 : goal.returns-then-n-eq0
unfolding rows_shifted columns_raised
returns-then-n-eq0 c = λ f s e. turned_lanes f (1 ∷ 2 ∷ 3 ∷ 0 ∷ 5 ∷ 6 ∷ 7 ∷ 4 ∷ 9 ∷ 10 ∷ 11 ∷ 8 ∷ 13 ∷ 14 ∷ 15 ∷ 12 ∷ []) c.args.x s c.args.n 0 (omega arith) e refl

pub returns-then-n-eq1 : goal.returns-then-n-eq1
unfolding rows_shifted columns_raised
returns-then-n-eq1 c = λ f s e. turned_lanes f (1 ∷ 14 ∷ 11 ∷ 4 ∷ 5 ∷ 2 ∷ 15 ∷ 8 ∷ 9 ∷ 6 ∷ 3 ∷ 12 ∷ 13 ∷ 10 ∷ 7 ∷ 0 ∷ []) c.args.x s c.args.n 3 (omega arith) e refl

pub returns-then-n-eq2 : goal.returns-then-n-eq2
unfolding rows_shifted columns_raised
returns-then-n-eq2 c = λ f s e. turned_lanes f (1 ∷ 10 ∷ 3 ∷ 8 ∷ 5 ∷ 14 ∷ 7 ∷ 12 ∷ 9 ∷ 2 ∷ 11 ∷ 0 ∷ 13 ∷ 6 ∷ 15 ∷ 4 ∷ []) c.args.x s c.args.n 2 (omega arith) e refl

pub returns : goal.returns
unfolding rows_shifted columns_raised
returns c = λ f s e. turned_lanes f (1 ∷ 6 ∷ 11 ∷ 12 ∷ 5 ∷ 10 ∷ 15 ∷ 0 ∷ 9 ∷ 14 ∷ 3 ∷ 4 ∷ 13 ∷ 2 ∷ 7 ∷ 8 ∷ []) c.args.x s c.args.n 1 (omega arith) e refl
