use Rattle.std.proofs.Common.{[], ◌∷◌, ◌++◌, ◌∙◌}
use lib.Lanes.{pick_l}
use Rattle.krb_aes.proofs.PairLanes.{preceding_picked}
use Rattle.krb_aes.proofs.inverse_pairs.preceding.Goals as goal

pub returns : goal.returns
returns e = λ a b ha hb ex.
    (λ i. pick_l 0 (e.twice.ensures.value i ++ ex i) (0 ∷ 1 ∷ 2 ∷ 3 ∷ 4 ∷ 5 ∷ 6 ∷ 7 ∷ 8 ∷ 9 ∷ 10 ∷ 11 ∷ 12 ∷ 13 ∷ 14 ∷ 15 ∷ 32 ∷ 33 ∷ 34 ∷ 35 ∷ 36 ∷ 37 ∷ 38 ∷ 39 ∷ 40 ∷ 41 ∷ 42 ∷ 43 ∷ 44 ∷ 45 ∷ 46 ∷ 47 ∷ []))
    ∙ preceding_picked e.args.state a b e.fits-state.0 ha.size hb.size
