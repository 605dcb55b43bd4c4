use Rattle.krb_aes.proofs.Rounds.{started, lanes_bytes}
use Rattle.krb_aes.proofs.cipher.start.Goals as goal

pub returns : goal.returns
returns c = λ w ek. started c.args.block c.args.key c.to_nibbles.result w (lanes_bytes c.args.block c.fits-block.1) c.fits-block.0 c.to_nibbles.ensures ek
