use Rattle.std.proofs.Common.{◌/◌, bit_and, refl}
use Rattle.krb_aes.specs.Nibbles.{entry}
use Rattle.krb_aes.specs.declared.inverse_sbox.TheConstants.{UNDONE_HIGH, UNDONE_LOW}
use Rattle.krb_aes.proofs.Lanes.{places_of_bytes, looked_of, sum_of}
use Rattle.krb_aes.proofs.InverseNibbles.{entries_back}
use Rattle.krb_aes.proofs.inverse_pairs.undo_affine.Goals as goal

pub look_up-requires : goal.look_up-requires
look_up-requires c = places_of_bytes (λ b. b / 16) c.args.x c.high.result c.fits-x.1 c.high.ensures refl

pub look_up-requires-2 : goal.look_up-requires-2
look_up-requires-2 c = places_of_bytes (λ b. bit_and b 15) c.args.x c.low.result c.fits-x.1 c.low.ensures refl

pub returns : goal.returns
returns c =
    entries_back c.args.x _ c.fits-x.1
    (sum_of (λ b. entry UNDONE_HIGH (b / 16)) (λ b. entry UNDONE_LOW (bit_and b 15)) c.args.x
    (looked_of UNDONE_HIGH (λ b. b / 16) c.args.x c.look_up.ensures c.high.ensures)
    (looked_of UNDONE_LOW (λ b. bit_and b 15) c.args.x c.look_up-2.ensures c.low.ensures))
