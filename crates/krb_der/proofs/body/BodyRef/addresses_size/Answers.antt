use Rattle.std.proofs.Common.{arith}
use Rattle.krb_der.proofs.Sizes.{addresses-small}
use Rattle.krb_der.proofs.body.BodyRef.addresses_size.Goals as goal

pub returns-in-Some-clause-bound : goal.returns-in-Some-clause-bound
returns-in-Some-clause-bound c =
    let b = c.args.self.now in
    grind (arith, addresses-small b.s_addr b.r_addr c.requires.0 c.requires.1)
