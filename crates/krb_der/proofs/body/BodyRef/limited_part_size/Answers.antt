use Rattle.krb_der.proofs.Lengths.{long_part}
use Rattle.krb_der.proofs.body.BodyRef.limited_part_size.Goals as goal

pub returns-then-not-is_short-clause-too_long : goal.returns-then-not-is_short-clause-too_long
returns-then-not-is_short-clause-too_long c = long_part c.args.self.now c.is_short.result c.is_short.ensures c.if-not-is_short.true
