-- What a value on the heap, or nothing, owns: the same as a `Box`, or nothing.
use Rattle.std.specs.Prelude.{ℕ, Option, Some, None}
use mir.Syntax.{Ty}
use base.Fml.{Fml, fsep, feq}
use denote.RattleType.{RattleType}
use denote.RawPtr.{Ptr}
use Rattle.std.specs.Box.Ownership.{box_owns}
use Rattle.std.specs.Global.{Global}
use Rattle.std.specs.contracts.impls.GlobalAllocator.TheImpl.{ghosts}

-- the handle of the heap, which has no bytes
abbrev pub heap : Global
heap = record { memory = record { seal = tt } }

-- the right to free a block
abbrev freeing : Ty → Ptr → Fml
freeing = ghosts.dealloc_token heap

-- a count of 1 stands beside the pointer of a box, and a count of 0 beside nothing
abbrev pub owns : (T : RattleType) → Ptr → ℕ → Option T.Denot → Fml
owns T at count None = feq ℕ count 0
owns T at count (Some x) = fsep (feq ℕ count 1) (box_owns freeing T at x)
