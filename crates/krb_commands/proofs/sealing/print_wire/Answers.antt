-- One emission more is written, or a part of it.
use Rattle.std.proofs.Common.{◌≡◌, ℕ, ◌<◌, List, length, length-append, get_or, codes, sym, subst, arith}
use Rattle.std.specs.Io.KnownBytes.{Appends}
use Rattle.std.proofs.KnownBytes.{Appends-nil}
use Rattle.std.proofs.lemmas.List.{take_all}
use Rattle.hex.specs.Hex.{encode_lower}
use Rattle.std.proofs.lemmas.Option.{get_or_from_slice_get}
use Rattle.krb_commands.specs.JobLines.{frame_line, frame_lines}
use Rattle.krb_commands.specs.declared.fault.Fault.TheVariants.{Memory}
use Rattle.krb_commands.specs.Fault.{IsOfPrinting}
use Rattle.krb_commands.proofs.FaultLemmas.{if_fault, no_value}
use Rattle.krb_commands.proofs.LinesLemmas.{printed-more, printed-part, printed-front}
use Rattle.krb_commands.proofs.ShowLemmas.{on_err}
use Rattle.krb_commands.proofs.sealing.print_wire.Goals as goal

pub loop-k-preserved : goal.loop-k-preserved
loop-k-preserved g c =
    let wire = c.args.wire.now in
    let frame = c.in_ok-frame.frame.items in
    let within : c.loop-k.k < length wire = omega arith in
    let is : frame ≡ get_or wire c.loop-k.k frame = sym (get_or_from_slice_get wire c.loop-k.k frame frame c.in_ok-frame.ensures) in
    printed-more frame_line _ _ _ wire c.loop-k.k frame within is c.loop-k.invariant c.in_ok-print_line.ensures.printed

pub returns-in_err-print_line-clause-part : goal.returns-in_err-print_line-clause-part
returns-in_err-print_line-clause-part g c =
    let wire = c.args.wire.now in
    let frame = c.in_ok-frame.frame.items in
    let within : c.loop-k.k < length wire = omega arith in
    let is : frame ≡ get_or wire c.loop-k.k frame = sym (get_or_from_slice_get wire c.loop-k.k frame frame c.in_ok-frame.ensures) in
    on_err _ c.from_residual-in_err-print_line.result
    (printed-part frame_line _ _ _ wire c.loop-k.k frame within is c.loop-k.invariant c.in_err-print_line.ensures.part)

-- a line has its line feed at least
line_some : (frame : List ℕ) → 0 < length (frame_line frame)
line_some frame = omega (arith, length-append (encode_lower frame) (codes "\n"))

pub returns-in_err-frame-clause-part : goal.returns-in_err-frame-clause-part
returns-in_err-frame-clause-part g c =
    let wire = c.args.wire.now in
    let within : c.loop-k.k < length wire = omega arith in
    on_err _ c.from_residual.result (printed-front frame_line line_some _ _ wire c.loop-k.k within c.loop-k.invariant)

pub loop-k-init : goal.loop-k-init
loop-k-init g c = Appends-nil _

pub returns-in_err-frame-clause-printed : goal.returns-in_err-frame-clause-printed
returns-in_err-frame-clause-printed g c = no_value c.from_residual.result Memory c.from_residual.ensures.1 _

pub returns-in_err-frame-clause-faults : goal.returns-in_err-frame-clause-faults
returns-in_err-frame-clause-faults g c = if_fault c.from_residual.result Memory IsOfPrinting c.from_residual.ensures.1 tt

pub returns-in_err-print_line-clause-printed : goal.returns-in_err-print_line-clause-printed
returns-in_err-print_line-clause-printed g c = no_value c.from_residual-in_err-print_line.result c.in_err-print_line.field-0.0 c.from_residual-in_err-print_line.ensures.1 _

pub returns-in_err-print_line-clause-faults : goal.returns-in_err-print_line-clause-faults
returns-in_err-print_line-clause-faults g c =
    if_fault c.from_residual-in_err-print_line.result c.in_err-print_line.field-0.0 IsOfPrinting c.from_residual-in_err-print_line.ensures.1 c.in_err-print_line.ensures.faults

pub returns-clause-printed : goal.returns-clause-printed
returns-clause-printed g c =
    let wire = c.args.wire.now in
    let P : List (List ℕ) → Type 0 = λ l. Appends (g.W.Write.contents c.args.writer.now) (g.W.Write.contents c.loop-k.writer) (frame_lines l) in
    subst P (take_all c.loop-k.k wire (omega arith)) c.loop-k.invariant

pub returns-clause-part : goal.returns-clause-part
returns-clause-part g c = tt

pub returns-clause-faults : goal.returns-clause-faults
returns-clause-faults g c = tt
