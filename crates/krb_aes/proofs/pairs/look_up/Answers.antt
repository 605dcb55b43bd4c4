use Rattle.std.proofs.Common.{ℕ, List, ap, ◌∙◌, w8}
use Rattle.std.proofs.lemmas.Simd.{swz_l}
use Rattle.krb_aes.proofs.PairLanes.{places_ok, looked}
use Rattle.krb_aes.proofs.pairs.look_up.Goals as goal

pub swizzle : goal.swizzle
swizzle c = places_ok c.args.places c.fits-places.0 c.requires

pub returns : goal.returns
returns c = ap (λ (t : List ℕ). swz_l w8 16 t 0 c.args.places) c.twice.ensures.value ∙ looked c.args.table c.args.places c.twice.ensures.whole c.fits-places.0 c.requires
