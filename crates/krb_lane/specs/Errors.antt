-- What is printed of the errors.
use Rattle.std.specs.Prelude.{ℕ, List, codes}
use Rattle.krb_lane.specs.declared.opening.LaneError.{LaneError}
use Rattle.krb_lane.specs.declared.opening.LaneError.TheVariants.{Memory}
use Rattle.krb_lane.specs.declared.receiving.Lost.{Lost}

abbrev pub words_of_lane_error : LaneError → List ℕ
words_of_lane_error Memory = codes "out of memory"

abbrev pub words_of_lost : Lost → List ℕ
words_of_lost lost = codes "the sending end is gone, and sent no End"
