use Rattle.krb_der.proofs.ExactSizes.{part_size}
use Rattle.krb_der.proofs.body.BodyRef.part_size_with.Goals as goal

pub returns : goal.returns
returns c = part_size c.args.self.now c.args.len _ (cc (c.size_around.ensures.value, c.size_with.ensures.value))
