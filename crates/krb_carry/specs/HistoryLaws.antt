-- What a digest says about the frames that it was made of.
use Rattle.std.specs.Prelude.{◌≡◌, ◌≤◌, ◌⊎◌, ℕ, List, ◌++◌, length, map, take}
use Rattle.sha1.specs.Sha1.{sha1}
use Rattle.krb_carry.specs.History.{no_history, tag, with_frames}

-- Two texts that have one hash: nobody knows any of 32 bytes.
pub record Collision : Type 0 where
  pub one : List ℕ
  pub other : List ℕ
  pub differ : ¬ (one ≡ other)
  pub same : sha1 one ≡ sha1 other

-- As many frames that have one digest have the same tags, or a collision is found.
abbrev pub OneHistory : Type 0
OneHistory = (frames others : List (List ℕ)) → length frames ≡ length others
    → with_frames no_history frames ≡ with_frames no_history others
    → (map tag frames ≡ map tag others) ⊎ Collision

-- A digest goes on from that of the frames before.
abbrev pub GoesOn : Type 0
GoesOn = (history : List ℕ) (before after : List (List ℕ))
    → with_frames history (before ++ after) ≡ with_frames (with_frames history before) after

-- the digest of the first n frames
abbrev pub first_history : ℕ → List (List ℕ) → List ℕ
first_history n frames = with_frames no_history (take n frames)

-- A receipt has a number n and the digest of the first n frames that took effect. A sender whose own
-- first n frames have this digest sealed frames with the tags of these, or a collision is found; one
-- whose frames have another digest sealed others than those that took effect.
abbrev pub ReceiptsNameTheHistory : Type 0
ReceiptsNameTheHistory = (mine took : List (List ℕ)) (n : ℕ) → n ≤ length mine → n ≤ length took
    → (first_history n mine ≡ first_history n took
    → (map tag (take n mine) ≡ map tag (take n took)) ⊎ Collision)
    × (¬ (first_history n mine ≡ first_history n took) → ¬ (take n mine ≡ take n took))
