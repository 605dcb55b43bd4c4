-- The keys of a sender.
use Rattle.std.specs.Prelude.{ℕ, List, [], ◌∷◌, codes, slice_index_or}
use denote.Enum.Declared.{tag_of}
use Rattle.krb_job.specs.contracts.place.Place.{the_type}
use Rattle.krb_job.specs.declared.place.Place.{Place}

-- the keys as they are written in the job, in the order of their places
unfoldable pub sender_keys : List (List ℕ)
sender_keys =
    codes "etype"
    ∷ codes "key"
    ∷ codes "mode"
    ∷ codes "first"
    ∷ codes "from"
    ∷ codes "to"
    ∷ codes "write_to"
    ∷ codes "require_to"
    ∷ codes "expect_time"
    ∷ codes "skew"
    ∷ codes "seed"
    ∷ codes "at"
    ∷ codes "now"
    ∷ codes "texts"
    ∷ codes "batch"
    ∷ codes "plan"
    ∷ codes "frames"
    ∷ []

-- the key of a place; the last place has none
unfoldable pub name_of : Place → List ℕ
name_of place = slice_index_or sender_keys (tag_of the_type place) (codes "unknown key")
