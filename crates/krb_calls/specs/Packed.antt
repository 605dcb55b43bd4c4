-- Frames in one buffer.
use Rattle.std.specs.Prelude.{◌≡◌, ◌≤◌, ℕ, List, ◌++◌, length, map, drop, Some, slice_get, slice_index}
use Rattle.std.specs.List.{concat}
use Rattle.std.specs.Global.{Vec}
use Rattle.krb_seal.specs.Sealer.{SealerState}
use Rattle.krb_bulk.specs.Many.{SealsInTurn}
use Rattle.krb_calls.specs.declared.unsealed.KrbUnsealed.{KrbUnsealed}
use Rattle.krb_calls.specs.Unsealed.{unsealed_of}

-- Their bytes, one frame after another.
abbrev pub bytes_of : List (Vec ℕ) → List ℕ
bytes_of frames = concat (map (λ f. f.items) frames)

-- The buffer begins with the frames, and each has its size at its index. What follows stays.
pub record HoldsFrames (frames : List (Vec ℕ)) (old new old_sizes new_sizes : List ℕ) : Type 0 where
  pub bytes : new ≡ bytes_of frames ++ drop (length (bytes_of frames)) old
  pub sizes : (k : ℕ) (f : Vec ℕ) → slice_get frames k ≡ Some f
      → slice_index new_sizes k ≡ length f.items
  pub others : (k : ℕ) → length frames ≤ k → slice_index new_sizes k ≡ slice_index old_sizes k

-- These are the frames of the messages, each at the number after that of the one before.
pub record SealsPacked (s : SealerState) (ms : List KrbUnsealed) (old new old_sizes new_sizes : List ℕ)
    : Type 0 where
  pub frames : List (Vec ℕ)
  pub sealed : SealsInTurn s (map unsealed_of ms) frames
  pub held : HoldsFrames frames old new old_sizes new_sizes
