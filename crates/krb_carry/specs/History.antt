-- The history of a session: one digest of the frames that took effect, in their order.
use Rattle.std.specs.Prelude.{ℕ, ◌-◌, List, [], ◌∷◌, ◌++◌, length, drop, replicate}
use Rattle.sha1.specs.Sha1.{sha1}

-- how many bytes a digest has
abbrev pub history_size : ℕ
history_size = 20

-- how many bytes a tag has
abbrev pub tag_size : ℕ
tag_size = 12

-- The tag of a frame is its last 12 bytes: the checksum of a KRB-SAFE and the code of a KRB-PRIV's
-- cipher stand last (RFC 4120 sections 5.6.1 and 5.7.1, RFC 3962 section 6).
abbrev pub tag : List ℕ → List ℕ
tag frame = drop (length frame - tag_size) frame

-- the digest of no frames
abbrev pub no_history : List ℕ
no_history = replicate history_size 0

-- after one frame more
abbrev pub with_frame : List ℕ → List ℕ → List ℕ
with_frame history frame = sha1 (history ++ tag frame)

-- after these, one after another
abbrev pub with_frames : List ℕ → List (List ℕ) → List ℕ
with_frames history [] = history
with_frames history (frame ∷ frames) = with_frames (with_frame history frame) frames
