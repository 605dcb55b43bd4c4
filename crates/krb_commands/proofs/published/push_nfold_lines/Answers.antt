use Rattle.std.proofs.Common.{codes}
use Rattle.krb_keys.specs.Nfold.{nfold}
use Rattle.krb_commands.specs.Vectors.{vector_line}
use Rattle.krb_commands.proofs.VectorLemmas.{three_lines}
use Rattle.krb_commands.proofs.published.push_nfold_lines.Goals as goal

pub returns : goal.returns
returns c =
    three_lines c.push_line-3.result _ _ _ _
    (vector_line (codes "nfold64") (nfold 8 (codes "012345")))
    (vector_line (codes "nfold56") (nfold 7 (codes "password")))
    (vector_line (codes "nfold128") (nfold 16 (codes "kerberos")))
    (rw c.nfold.ensures at c.in_ok-push_line.ensures)
    (rw c.nfold-2.ensures at c.in_ok-push_line-2.ensures)
    (rw c.nfold-3.ensures at c.push_line-3.ensures)
