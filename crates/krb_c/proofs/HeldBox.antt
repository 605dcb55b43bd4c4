-- A handle that holds a value owns what a box of it owns.
use mathlib.Core.List.{[], ◌∷◌}
use mir.Syntax.{Args, impl, tnil, dnil, a_type}
use denote.Param.{bounded, param}
use denote.Param.Laws.{Laws}
use denote.RattleType.{RattleType}
use denote.Signature.{Slot, plain}
use Rattle.std.proofs.BoxSteps.Form.{Bx}
use Rattle.std.specs.contracts.alloc.Global as Heap
use Rattle.std.specs.contracts.impls.GlobalAllocator.TheImpl.{ghosts, dict}
use Rattle.std.proofs.alloc.Global.TheLaws as heap
use Rattle.krb_c.specs.contracts.parts.Parts as Parts
use Rattle.krb_c.specs.contracts.held.Held as Held

abbrev pub args : RattleType → Args
args T = bounded (a_type ∷ []) (T, tt) dnil

abbrev pub box_of : (T : RattleType) → Laws T → Bx
box_of T laws = record {
  row = T;
  laws = laws;
  al = record { row = Heap.the_row; laws = heap.the_row_laws; g = ghosts; d = dict; drops = impl [] tnil dnil };
}

abbrev pub FromParts : RattleType → Slot 1
FromParts T = plain (λ _. Parts.the_row (param 0 T) Heap.the_row ghosts)

abbrev pub FromHeld : RattleType → Slot 1
FromHeld T = plain (λ _. Held.the_row (param 0 T))

abbrev pub FromHeap : Slot 1
FromHeap = plain (λ _. Heap.the_row)
