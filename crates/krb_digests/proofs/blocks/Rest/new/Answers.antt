use Rattle.std.proofs.Common.{◌≡◌, ◌-◌, ◌%◌, ◌≤◌, length, arith, ◌∙◌}
use Rattle.krb_digests.proofs.EndLemmas.{end_is, length-left}
use Rattle.krb_digests.proofs.blocks.Rest.new.Goals as goal
use Rattle.krb_digests.proofs.blocks.Rest.new.Goals.{then-left-lt56, else-left-lt56}

pub invariant_of-result : goal.invariant_of-result
invariant_of-result c =
    let rest = c.args.bytes.now in
    let zeros : c.if-left-lt56.size - 9 - length rest % 64 ≡ (119 - length rest % 64) % 64 = elim c.if-left-lt56.branch [
      | then-left-lt56 w ↦ omega (arith, w.if-left-lt56, w.size-is, length-left rest)
      | else-left-lt56 w ↦ omega (arith, w.if-left-lt56, w.size-is, length-left rest)
    ] in
    let fits : c.if-left-lt56.size ≤ 128 = elim c.if-left-lt56.branch [
      | then-left-lt56 w ↦ omega (arith, w.size-is)
      | else-left-lt56 w ↦ omega (arith, w.size-is)
    ] in
    record {
      bytes = c.write_end.ensures ∙ end_is rest c.to_be_bytes.result c.if-left-lt56.size c.to_be_bytes.ensures (rw (length-left rest) zeros);
      fits = fits;
    }
