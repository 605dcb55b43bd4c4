-- What a plan emits.
use Rattle.std.proofs.Common.{◌≡◌, ℕ, zero, suc, ◌<◌, Bool, IsTrue, List, [], ◌∷◌, length, get_or, set, slice_get, Some, refl, sym, ap, subst, ◌∙◌, arith}
use Rattle.std.specs.Prelude.{if◌then◌else◌, bit_xor}
use Rattle.std.proofs.lemmas.Nat.{xor_lt}
use Rattle.krb_base.specs.Bytes.{AreBytes}
use Rattle.krb_record.specs.declared.plan.Emit.{Emit}
use Rattle.krb_peers.specs.Plan.{is_good, is_good_emission, frame_at, flipped, emission, emissions, wire}
use Rattle.krb_peers.specs.Verdicts.{AllBytes}
use Rattle.krb_peers.proofs.ListLemmas.{all_pass}

-- ---- bytes

set_small : (s : List ℕ) (i v : ℕ) → ((k : ℕ) → get_or s k 0 < 256) → v < 256 → (k : ℕ) → get_or (set s i v) k 0 < 256
set_small [] i v all small k = all k
set_small (x ∷ s) zero v all small zero = small
set_small (x ∷ s) zero v all small (suc k) = all (suc k)
set_small (x ∷ s) (suc i) v all small zero = all zero
set_small (x ∷ s) (suc i) v all small (suc k) = set_small s i v (λ j. all (suc j)) small k

-- a frame is bytes, and so is none
pub frame_bytes : (frames : List (List ℕ)) (k : ℕ) → AllBytes frames → AreBytes (frame_at frames k)
frame_bytes [] k all = record { small = λ i. omega arith }
frame_bytes (frame ∷ frames) zero all = all.0
frame_bytes (frame ∷ frames) (suc k) all = frame_bytes frames k all.1

-- and so it is with a byte changed by a byte
pub flipped_bytes : (frame : List ℕ) (at mask : ℕ) → AreBytes frame → mask < 256 → AreBytes (flipped frame at mask)
flipped_bytes frame at mask bytes small = record { small = set_small frame at (bit_xor (get_or frame at 0) mask) bytes.small (xor_lt 8 (get_or frame at 0) mask (bytes.small at) small) }

-- ---- the emissions of a wire

-- an emission of a good plan is good
pub emission_good : (frames : List (List ℕ)) (plan : List Emit) (k : ℕ) (one : Emit) → IsTrue (is_good frames plan) → slice_get plan k ≡ Some one → IsTrue (is_good_emission frames one)
emission_good frames plan k one good at = all_pass (is_good_emission frames) plan k one good at

pub emission_at : (frames : List (List ℕ)) (plan : List Emit) (k : ℕ) (one : Emit) → slice_get plan k ≡ Some one → slice_get (emissions frames plan) k ≡ Some (emission frames one)
emission_at frames [] k one at = absurd (let e = at in cc)
emission_at frames (x ∷ plan) zero one at = let same : x ≡ one = cc in ap (λ e. Some (emission frames e)) same
emission_at frames (x ∷ plan) (suc k) one at = emission_at frames plan k one at

-- a good plan emits its emissions
pub wire_good : (frames : List (List ℕ)) (plan : List Emit) → IsTrue (is_good frames plan) → wire frames (Some plan) ≡ emissions frames plan
wire_good frames plan good = let P : Bool → Type 0 = λ b. (if b then emissions frames plan else []) ≡ emissions frames plan in subst P (sym good) refl

-- what stands at a place of the wire of a good plan
pub wire_at : (frames : List (List ℕ)) (plan : List Emit) (k : ℕ) (one : Emit) → IsTrue (is_good frames plan) → slice_get plan k ≡ Some one → slice_get (wire frames (Some plan)) k ≡ Some (emission frames one)
wire_at frames plan k one good at = ap (λ w. slice_get w k) (wire_good frames plan good) ∙ emission_at frames plan k one at

emission_count : (frames : List (List ℕ)) (plan : List Emit) → length (emissions frames plan) ≡ length plan
emission_count frames [] = refl
emission_count frames (x ∷ plan) = ap suc (emission_count frames plan)

pub wire_count : (frames : List (List ℕ)) (plan : List Emit) → IsTrue (is_good frames plan) → length (wire frames (Some plan)) ≡ length plan
wire_count frames plan good = ap length (wire_good frames plan good) ∙ emission_count frames plan
