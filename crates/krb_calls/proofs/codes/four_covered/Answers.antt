use Rattle.std.proofs.Common.{◌+◌}
use Rattle.std.specs.Prelude.{IfSome}
use Rattle.krb_bulk.proofs.BulkLemmas.{of_index}
use Rattle.krb_seal.specs.Covered.{CoversFrame}
use Rattle.krb_calls.specs.declared.frame.KrbFrame.{KrbFrame}
use Rattle.krb_calls.proofs.codes.four_covered.Goals as goal

pub returns : goal.returns
returns c =
    let frames = c.args.frames.now in let o = c.args.opener.now in
    record {
      a = of_index (λ (f : KrbFrame). IfSome c.covered.result (CoversFrame o f.bytes.now)) frames c.args.from _ c.covered.ensures;
      b = of_index (λ (f : KrbFrame). IfSome c.covered-2.result (CoversFrame o f.bytes.now)) frames (c.args.from + 1) _ c.covered-2.ensures;
      c = of_index (λ (f : KrbFrame). IfSome c.covered-3.result (CoversFrame o f.bytes.now)) frames (c.args.from + 2) _ c.covered-3.ensures;
      d = of_index (λ (f : KrbFrame). IfSome c.covered-4.result (CoversFrame o f.bytes.now)) frames (c.args.from + 3) _ c.covered-4.ensures;
    }
