use Rattle.std.proofs.Common.{◌<◌, ◌^◌, arith, subst}
use Rattle.krb_seal.specs.AesSealerInside.{state_of}
use Rattle.krb_seal.specs.Sealer.{SealerState, HasFrameSize}
use Rattle.krb_seal.proofs.FrameSizes.{next_size}
use Rattle.krb_seal.proofs.aes_sealer.AesSealer.frame_size.Goals as goal

pub returns : goal.returns
returns g c =
    let a = c.self.inside in
    subst (λ (s : SealerState). HasFrameSize s c.args.len c.args.at c.frame_size.result) c.self.view_is
    (next_size (state_of a.etype a.keys a.session a.next) _ c.args.at c.args.len c.frame_size.result _ (λ (below : a.next < 2 ^ 32). grind (arith, c.min-number.ensures)) c.new-body.ensures c.frame_size.ensures)
