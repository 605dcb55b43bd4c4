use Rattle.std.proofs.Common.{◌≡◌, sym, ap₂, ◌∙◌, arith}
use Rattle.krb_structs.specs.PeerExport.{export_of}
use Rattle.krb_structs.proofs.ExportLemmas.{differ, read_both}
use Rattle.krb_structs.proofs.peer_export.exported.Goals.{then-next-via-then-next, then-next-via-else-next+then-expected}
use Rattle.krb_structs.proofs.peer_export.exported.Goals as goal

pub returns-then-next-clause-none : goal.returns-then-next-clause-none
returns-then-next-clause-none c = λ none n e is.
    let same = read_both c.args.state.now c.number_at-next.result c.number_at-expected.result n e c.number_at-next.ensures c.number_at-expected.ensures is in
    elim c.then-next.branch [
      | then-next-via-then-next w ↦ omega (arith, w.if-next.true, same.0, is.next_fits)
      | then-next-via-else-next+then-expected w ↦ omega (arith, w.if-expected.true, same.1, is.expected_fits)
    ]

pub returns-then-ne-clause-none : goal.returns-then-ne-clause-none
returns-then-ne-clause-none c = λ none n e is.
    let same = read_both c.args.state.now c.number_at-next.result c.number_at-expected.result n e c.number_at-next.ensures c.number_at-expected.ensures is in
    let equal : c.as_slice.result.now ≡ c.as_slice-2.result.now = c.as_slice.ensures ∙ c.export_of.ensures ∙ ap₂ export_of same.0 same.1 ∙ sym is.bytes ∙ sym c.as_slice-2.ensures in
    differ c.as_slice.result.now c.as_slice-2.result.now (sym c.if-ne.true ∙ c.ne.ensures) equal
