use Rattle.std.proofs.Common.{◌/◌, bit_and, refl}
use Rattle.krb_aes.specs.Nibbles.{nibbles_of_high, nibbles_of_low, entry}
use Rattle.krb_aes.proofs.Lanes.{places_of_bytes, looked_of, sum_of}
use Rattle.krb_aes.proofs.Nibbles.{entries_nibbles}
use Rattle.krb_chains.proofs.pair_cipher.to_nibbles.Goals as goal

pub look_up-requires : goal.look_up-requires
look_up-requires c = places_of_bytes (λ b. b / 16) c.args.x c.high.result c.fits-x.1 c.high.ensures refl

pub look_up-requires-2 : goal.look_up-requires-2
look_up-requires-2 c = places_of_bytes (λ b. bit_and b 15) c.args.x c.low.result c.fits-x.1 c.low.ensures refl

pub returns : goal.returns
returns c =
    entries_nibbles c.args.x _ c.fits-x.1
    (sum_of (λ b. entry nibbles_of_high (b / 16)) (λ b. entry nibbles_of_low (bit_and b 15)) c.args.x
    (looked_of nibbles_of_high (λ b. b / 16) c.args.x c.look_up.ensures c.high.ensures)
    (looked_of nibbles_of_low (λ b. bit_and b 15) c.args.x c.look_up-2.ensures c.low.ensures))
