-- What a wire makes of a sender's frames. A plan repeats, drops, reorders or changes them on
-- purpose, to test a receiver.
use Rattle.std.specs.Prelude.{ℕ, ◌==◌, nat_lt, Bool, true, not, ◌&&◌, List, [], map, length, codes}
use Rattle.std.specs.Prelude.{Vec, Option, Some, None, slice_index, slice_index_or, slice_set}
use Rattle.std.specs.Prelude.{bit_xor, if◌then◌else◌}
use Rattle.std.specs.List.{list_all}
use Rattle.krb_record.specs.declared.plan.Emit.{Emit}
use Rattle.krb_record.specs.declared.plan.Emit.TheVariants.{Frame, Flip, Raw}
use Rattle.krb_peers.specs.declared.plan.EmitError.{EmitError}
use Rattle.krb_peers.specs.declared.plan.EmitError.TheVariants.{BadPlan, Memory}

-- the bytes of each vector
abbrev pub contents : {A : Type 0} → List (Vec ℕ A) → List (List ℕ)
contents vectors = map (λ vector. vector.items) vectors

-- frame k, or no bytes
abbrev pub frame_at : List (List ℕ) → ℕ → List ℕ
frame_at frames k = slice_index_or frames k []

-- a frame with byte `at` changed by exclusive or with a mask
abbrev pub flipped : List ℕ → ℕ → ℕ → List ℕ
flipped frame at mask = slice_set frame at (bit_xor (slice_index frame at) mask)

-- raw bytes are good; any other emission is if its frame, and in it its byte, exist, and its mask
-- changes something
abbrev pub is_good_emission : List (List ℕ) → Emit → Bool
is_good_emission frames (Frame k) = nat_lt k (length frames)
is_good_emission frames (Flip k at mask) =
    nat_lt k (length frames) && nat_lt at (length (frame_at frames k)) && not (mask == 0)
is_good_emission frames (Raw bytes) = true

-- a plan is good: each of its emissions is
abbrev pub is_good : List (List ℕ) → List Emit → Bool
is_good frames plan = list_all (is_good_emission frames) plan

-- the plan is good, or there is none
abbrev pub is_planned : List (List ℕ) → Option (List Emit) → Bool
is_planned frames None = true
is_planned frames (Some plan) = is_good frames plan

-- what one emission puts on the wire
abbrev pub emission : List (List ℕ) → Emit → List ℕ
emission frames (Frame k) = frame_at frames k
emission frames (Flip k at mask) = flipped (frame_at frames k) at mask
emission frames (Raw bytes) = bytes

-- what a plan puts on the wire, in order
abbrev pub emissions : List (List ℕ) → List Emit → List (List ℕ)
emissions frames plan = map (emission frames) plan

-- the wire: the frames if there is no plan, else one frame for each emission; a bad plan has none
abbrev pub wire : List (List ℕ) → Option (List Emit) → List (List ℕ)
wire frames None = frames
wire frames (Some plan) = if is_good frames plan then emissions frames plan else []

-- the number of an error
abbrev pub code_of : EmitError → ℕ
code_of BadPlan = 1
code_of Memory = 2

-- what is printed of it
abbrev pub words_of : EmitError → List ℕ
words_of BadPlan = codes "the plan names what the frames don't have"
words_of Memory = codes "out of memory"
