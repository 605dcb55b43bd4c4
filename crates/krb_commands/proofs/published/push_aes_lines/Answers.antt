use Rattle.std.proofs.Common.{codes}
use Rattle.krb_aes.specs.Keys.{aes}
use Rattle.krb_commands.specs.Vectors.{block, first_bytes, teriyaki, vector_line}
use Rattle.krb_commands.proofs.VectorLemmas.{four_lines}
use Rattle.krb_commands.proofs.published.push_aes_lines.Goals as goal

pub returns : goal.returns
returns c =
    four_lines c.push_line-4.result _ _ _ _ _
    (vector_line (codes "aes128") (aes (first_bytes 16) block))
    (vector_line (codes "aes256") (aes (first_bytes 32) block))
    (vector_line (codes "cts17") (teriyaki (codes "I would like the ")))
    (vector_line (codes "cts32") (teriyaki (codes "I would like the General Gau's C")))
    (rw (c.encipher.ensures, c.from_128.ensures) at c.in_ok-push_line.ensures)
    (rw (c.encipher-2.ensures, c.from_256.ensures) at c.in_ok-push_line-2.ensures)
    (rw c.encipher_text.ensures at c.in_ok-push_line-3.ensures)
    (rw c.encipher_text-2.ensures at c.push_line-4.ensures)
