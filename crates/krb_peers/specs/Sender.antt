-- What a sender seals.
use Rattle.std.specs.Prelude.{◌≡◌, ℕ, ◌+◌, ◌-◌, min, List, [], ◌∷◌, ◌++◌, length, map, take, drop}
use Rattle.std.specs.Prelude.{slice_get, slice_index_or, nat_lt, if◌then◌else◌, Option}
use Rattle.std.specs.Prelude.{Some, All, ◌≤◌}
use Rattle.std.specs.List.{flat_map}
use Rattle.rand_chacha.specs.ChaCha.{ChaCha}
use Rattle.krb_base.specs.Limits.{text_limit, last_number, batch_limit}
use Rattle.krb_record.specs.Groups.{groups}
use Rattle.krb_seal.specs.Sealer.{SealerState}
use Rattle.krb_seal.specs.Seals.{Seals}
use Rattle.krb_record.specs.declared.record.Record.{Record}
use Rattle.krb_record.specs.declared.record.Record.TheVariants.{Close}
use Rattle.krb_record.specs.declared.plan.Emit.{Emit}
use Rattle.krb_record.specs.Record.{bytes_of, record_for}
use Rattle.krb_peers.specs.Draws.{confounder_at}
use Rattle.krb_peers.specs.Moments.{moment_at}

-- a sealer, the texts for it, how many of them go together at most, the timestamps, a generator,
-- and the plan of the wire, if there is one
pub record Source : Type 0 where
  pub sealer : SealerState
  pub texts : List (List ℕ)
  pub batch : ℕ
  pub ats : List ℕ
  pub draws : ChaCha
  pub plan : Option (List Emit)

-- a sender's limits: no text is too long, and not too many go together
pub record IsWithinLimits (source : Source) : Type 0 where
  pub texts : All (λ text. length text ≤ text_limit) source.texts
  pub batch : source.batch ≤ batch_limit

-- the groups of a sender's texts
abbrev pub text_groups : Source → List (List (List ℕ))
text_groups source = groups source.batch source.texts

-- the texts of groups, in order
abbrev pub texts_of_groups : List (List (List ℕ)) → List (List ℕ)
texts_of_groups groups = flat_map (λ group. group) groups

-- how many of n groups are sealed, from this number on: the last number is kept for the close
abbrev pub sealed_count : ℕ → ℕ → ℕ
sealed_count next n = min n (last_number - next)

-- the groups that are sealed
abbrev pub sealed_groups : Source → List (List (List ℕ))
sealed_groups source =
    take (sealed_count source.sealer.next (length (text_groups source))) (text_groups source)

-- the texts that are sealed
abbrev pub sealed_texts : Source → List (List ℕ)
sealed_texts source = texts_of_groups (sealed_groups source)

-- the group that comes after so many texts, if any text is left
abbrev pub group_after : ℕ → Source → List (List ℕ)
group_after passed source = slice_index_or (groups source.batch (drop passed source.texts)) 0 []

-- the texts of the first k groups are so many
abbrev pub texts_before : ℕ → Source → ℕ
texts_before k source = length (texts_of_groups (take k (text_groups source)))

-- the record that comes at a number: that of the group, or the close if none is left or the number
-- is the last
abbrev pub record_at : ℕ → List (List ℕ) → Record
record_at number [] = Close
record_at number (text ∷ texts) =
    if nat_lt number last_number then record_for (text ∷ texts) else Close

-- the records of these groups, and then the close
abbrev pub records_for : List (List (List ℕ)) → List Record
records_for groups = map record_for groups ++ Close ∷ []

-- all records that a sender seals
abbrev pub records : Source → List Record
records source = records_for (sealed_groups source)

-- the frame is that of record k: sealed at the k-th number from the sealer's next one on, at the
-- k-th timestamp, under confounder k
abbrev pub IsFrame : Source → ℕ → Record → List ℕ → Type 0
IsFrame source k carried frame =
    let s = source.sealer in
    Seals s.etype s.key s.session (s.next + k) (bytes_of carried) (moment_at source.ats k)
    (confounder_at source.draws k) frame

-- the frames are those of the first records, one for each
pub record AreFrames (source : Source) (carried : List Record)
    (frames : List (List ℕ)) : Type 0 where
  pub one_each : length frames ≡ length carried
  pub each :
      (k : ℕ) (r : Record) (frame : List ℕ) → slice_get carried k ≡ Some r
      → slice_get frames k ≡ Some frame
      → IsFrame source k r frame
