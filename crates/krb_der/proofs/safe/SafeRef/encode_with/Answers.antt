use Rattle.krb_der.specs.Safe.{with_checksum}
use Rattle.krb_der.proofs.Lengths.{long_safe_checksum}
use Rattle.krb_der.proofs.safe.SafeRef.encode_with.Goals as goal

pub returns-then-not-is_short : goal.returns-then-not-is_short
returns-then-not-is_short c =
    long_safe_checksum (with_checksum c.args.self.now c.args.kind.now c.args.checksum.now) c.is_short.result c.is_short.ensures c.if-not-is_short.true
