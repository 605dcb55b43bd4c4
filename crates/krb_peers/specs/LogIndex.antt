-- What a log keeps beside its entries.
use Rattle.std.specs.Prelude.{◌≡◌, ℕ, ◌+◌, ◌<◌, ◌≤◌, ◌==◌, Bool, false, List, [], ◌∷◌, ◌++◌}
use Rattle.std.specs.Prelude.{slice_index_or, map, if◌then◌else◌}
use Rattle.krb_base.specs.Limits.{lane_limit}
use Rattle.krb_peers.specs.declared.log.Event.{Event}
use Rattle.krb_peers.specs.declared.log.Entry.{Entry}
use Rattle.krb_peers.specs.Log.{is_closed, texts_in}

-- the place of an event, if it is a text
abbrev pub text_place : ℕ → Event → List ℕ
text_place place event = map (λ text. place) (texts_in (event ∷ []))

-- the places of a lane's texts among entries, of which the first is at this place
abbrev pub places_from : ℕ → ℕ → List Entry → List ℕ
places_from place lane [] = []
places_from place lane (entry ∷ entries) =
    (if entry.lane == lane then text_place place entry.event else [])
    ++ places_from (place + 1) lane entries

-- beside the entries there are, lane by lane, the places of its texts, and whether there is a close
-- of it
pub record IsIndexed (lanes : ℕ) (entries : List Entry) (texts : List (List ℕ))
    (closed : List Bool) : Type 0 where
  pub few : lanes ≤ lane_limit
  pub places : (lane : ℕ) → lane < lane_limit
      → slice_index_or texts lane [] ≡ places_from 0 lane entries
  pub closes : (lane : ℕ) → lane < lane_limit
      → slice_index_or closed lane false ≡ is_closed lane entries
