use Rattle.krb_aes.proofs.Rounds.{lanes_bytes}
use Rattle.krb_aes.proofs.InverseNibbles.{begun}
use Rattle.krb_aes.proofs.inverse_cipher.inv_start.Goals as goal

pub returns : goal.returns
returns c = λ w n ek. begun c.args.block c.args.key c.undo_affine.result w n (lanes_bytes c.args.block c.fits-block.1) c.fits-block.0 c.undo_affine.ensures ek
