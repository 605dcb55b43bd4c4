-- What `open --plain` prints: user data are taken as they are, and not as records.
use Rattle.std.specs.Prelude.{◌≡◌, ◌⊎◌, ℕ, ◌+◌, List, [], ◌∷◌, ◌++◌, map, codes, Option, Ok, Err}
use Rattle.std.specs.Prelude.{if◌then◌else◌, is_ok}
use Rattle.std.specs.List.{concat, list_all}
use Rattle.std.specs.Io.KnownBytes.{Appends, Keeps}
use Rattle.hex.specs.Hex.{encode_lower}
use Rattle.krb_seal.specs.Opens.{OpenerState, Opens}
use Rattle.krb_seal.specs.OpensParts.{Outcome}
use Rattle.krb_peers.specs.Moments.{moment_at}
use Rattle.krb_peers.specs.ReceiverState.{ReceiverState}
use Rattle.krb_commands.specs.JobLines.{line_of, refusal_text}
use Rattle.krb_commands.specs.Output.{AppendsPrefix}

-- the number that is demanded after an outcome
abbrev pub number_after : ℕ → Outcome → ℕ
number_after number (Ok user_data) = number + 1
number_after number (Err refusal) = number

-- One outcome for each frame, in order: the user data, or the refusal of the first check that it
-- fails. Of the first frame this number is demanded, and each is opened at the timestamp of its
-- place, which is this one for the first.
abbrev pub AreOutcomes : OpenerState → List ℕ → ℕ → ℕ → List (List ℕ) → List Outcome → Type 0
AreOutcomes opener nows number place [] [] = Unit {0}
AreOutcomes opener nows number place [] (outcome ∷ outcomes) = ⊥
AreOutcomes opener nows number place (frame ∷ frames) [] = ⊥
AreOutcomes opener nows number place (frame ∷ frames) (outcome ∷ outcomes) =
    Opens opener number (moment_at nows place) frame outcome
    × AreOutcomes opener nows (number_after number outcome) (place + 1) frames outcomes

-- the outcomes of the frames that a receiver's opener opens, from the number on that it demands
abbrev pub ArePlain : ReceiverState → List ℕ → List (List ℕ) → List Outcome → Type 0
ArePlain receiver nows frames outcomes =
    AreOutcomes receiver.opener nows receiver.demand.expected 0 frames outcomes

abbrev pub outcome_text : Outcome → List ℕ
outcome_text (Ok user_data) = codes "lane 0 data " ++ encode_lower user_data
outcome_text (Err refusal) = codes "lane 0 " ++ refusal_text refusal

abbrev pub outcome_lines : List Outcome → List ℕ
outcome_lines outcomes = concat (map (λ outcome. line_of (outcome_text outcome)) outcomes)

-- 0 where each message was accepted, else 2
abbrev pub plain_status : List Outcome → ℕ
plain_status outcomes = if list_all is_ok outcomes then 0 else 2

-- the outcome of each frame is printed, one a line, and this is the status
abbrev pub PrintsPlain : ReceiverState → List ℕ → List (List ℕ) → Option (List ℕ) → Option (List ℕ)
    → ℕ → Type 0
PrintsPlain receiver nows frames old new status =
    (outcomes : List Outcome) × ArePlain receiver nows frames outcomes
    × Appends old new (outcome_lines outcomes) × (status ≡ plain_status outcomes)

-- a prefix of that, or nothing
abbrev pub PrintsPlainPrefix : ReceiverState → List ℕ → List (List ℕ) → Option (List ℕ)
    → Option (List ℕ) → Type 0
PrintsPlainPrefix receiver nows frames old new =
    Keeps old new
    ⊎ ((outcomes : List Outcome) × ArePlain receiver nows frames outcomes
    × AppendsPrefix old new (outcome_lines outcomes))
