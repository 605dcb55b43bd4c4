-- How texts are grouped, in order: a group of two or more texts goes as a batch.
use Rattle.std.specs.Prelude.{◌≡◌, ℕ, ◌≤◌, max, Bool, nat_lt, nat_le, ◌&&◌, List, [], ◌∷◌, ◌++◌}
use Rattle.std.specs.Prelude.{length, take, if◌then◌else◌}
use Rattle.krb_base.specs.Limits.{batch_size_limit}
use Rattle.krb_record.specs.Batch.{texts_size}

-- the first n of the texts fit into one group: they are at most b, and not too large together
pub record Fits (b : ℕ) (texts : List (List ℕ)) (n : ℕ) : Type 0 where
  pub there : n ≤ length texts
  pub few : n ≤ b
  pub small : texts_size (take n texts) ≤ batch_size_limit

-- the longest prefix that fits has n texts
abbrev pub IsLongest : ℕ → List (List ℕ) → ℕ → Type 0
IsLongest b texts n = Fits b texts n × ((m : ℕ) → Fits b texts m → m ≤ n)

-- the first group has n texts: it is the longest prefix that fits, or the first text alone if that
-- prefix is empty
abbrev pub IsFirstGroup : ℕ → List (List ℕ) → ℕ → Type 0
IsFirstGroup b texts n = (longest : ℕ) × IsLongest b texts longest × (n ≡ max 1 longest)

-- these are the groups of the texts: none if there are no texts, else the first group and then the
-- groups of the rest
abbrev pub AreGroups : ℕ → List (List ℕ) → List (List (List ℕ)) → Type 0
AreGroups b texts [] = texts ≡ []
AreGroups b texts (group ∷ groups) =
    (rest : List (List ℕ)) × (texts ≡ group ++ rest) × IsFirstGroup b texts (length group)
    × AreGroups b rest groups

-- ---- the same as a function: the law `group_laws` says that it gives the one such list

-- whether one more text fits into this group
abbrev pub takes : ℕ → List (List ℕ) → List ℕ → Bool
takes b group text =
    nat_lt (length group) b && nat_le (texts_size (group ++ text ∷ [])) batch_size_limit

-- the groups of the texts of a group that was begun and of those after it
abbrev pub groups_from : ℕ → List (List ℕ) → List (List ℕ) → List (List (List ℕ))
groups_from b group [] = group ∷ []
groups_from b group (text ∷ texts) =
    if takes b group text then groups_from b (group ++ text ∷ []) texts
    else group ∷ groups_from b (text ∷ []) texts

-- the groups of the texts, at most b in each
abbrev pub groups : ℕ → List (List ℕ) → List (List (List ℕ))
groups b [] = []
groups b (text ∷ texts) = groups_from b (text ∷ []) texts
