use Rattle.std.proofs.Common.{ap, ◌∙◌}
use Rattle.std.specs.Int.{w32, rotate_left}
use Rattle.krb_digests.proofs.LaneLemmas.{summed_at}
use Rattle.krb_digests.proofs.compression.scheduled.Goals as goal

pub returns : goal.returns
returns c j h =
    c.rotate_left.ensures j h
    ∙ ap (λ x. rotate_left w32 x 1) (summed_at c.args.a c.args.b c.args.c c.args.d c.fits-a.0 c.fits-b.0 c.fits-c.0 c.fits-d.0 j h)
