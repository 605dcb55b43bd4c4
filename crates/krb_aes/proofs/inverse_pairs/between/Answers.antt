use Rattle.std.proofs.Common.{[], ◌∷◌, ◌++◌, ◌∙◌}
use lib.Lanes.{pick_l}
use Rattle.krb_aes.proofs.PairLanes.{between_picked}
use Rattle.krb_aes.proofs.inverse_pairs.between.Goals as goal

pub returns : goal.returns
returns e = λ a b c d ha hb hc hd ex ey.
    (λ i. pick_l 0 (ex i ++ ey i) (16 ∷ 17 ∷ 18 ∷ 19 ∷ 20 ∷ 21 ∷ 22 ∷ 23 ∷ 24 ∷ 25 ∷ 26 ∷ 27 ∷ 28 ∷ 29 ∷ 30 ∷ 31 ∷ 32 ∷ 33 ∷ 34 ∷ 35 ∷ 36 ∷ 37 ∷ 38 ∷ 39 ∷ 40 ∷ 41 ∷ 42 ∷ 43 ∷ 44 ∷ 45 ∷ 46 ∷ 47 ∷ [])) ∙ between_picked a b c d ha.size hb.size hc.size hd.size
