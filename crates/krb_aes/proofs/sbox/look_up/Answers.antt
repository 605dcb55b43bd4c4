use Rattle.krb_aes.proofs.Lanes.{places_ok, looked}
use Rattle.krb_aes.proofs.sbox.look_up.Goals as goal

pub swizzle : goal.swizzle
swizzle c = places_ok c.args.places c.fits-places c.requires

pub returns : goal.returns
returns c = looked c.args.table c.args.places c.fits-places
