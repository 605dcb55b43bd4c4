-- The lines that are printed for a job.
use Rattle.std.specs.Prelude.{ℕ, ◌+◌, ◌&&◌, Bool, true, false, List, [], ◌∷◌, ◌++◌, map, codes}
use Rattle.std.specs.Prelude.{if◌then◌else◌}
use Rattle.std.specs.List.{concat}
use Rattle.std.specs.Fmt.{decimal}
use Rattle.hex.specs.Hex.{encode_lower}
use Rattle.krb_seal.specs.declared.refusal.Refusal.{Refusal}
use Rattle.krb_seal.specs.Refusal.{code_of, name_of}
use Rattle.krb_peers.specs.declared.log.Event.{Event}
use Rattle.krb_peers.specs.declared.log.Event.TheVariants.{Text, Closed, Refused}
use Rattle.krb_peers.specs.declared.log.Entry.{Entry}
use Rattle.krb_peers.specs.declared.log.Status.{Status}
use Rattle.krb_peers.specs.declared.log.Status.TheVariants as status
use Rattle.krb_peers.specs.declared.sending.Sent.{Sent}
use Rattle.krb_peers.specs.declared.sending.Ending.{Ending}
use Rattle.krb_peers.specs.declared.sending.Ending.TheVariants.{Done, LastNumber}
use Rattle.krb_peers.specs.Log.{status_of}
use Rattle.krb_peers.specs.LogState.{LogState}

-- a text and its line feed
abbrev pub line_of : List ℕ → List ℕ
line_of text = text ++ codes "\n"

-- a frame that is put on the wire
abbrev pub frame_line : List ℕ → List ℕ
frame_line frame = line_of (encode_lower frame)

abbrev pub frame_lines : List (List ℕ) → List ℕ
frame_lines frames = concat (map frame_line frames)

abbrev pub refusal_text : Refusal → List ℕ
refusal_text refusal = codes "refused " ++ decimal (code_of refusal) ++ codes " " ++ name_of refusal

-- what became of a frame
abbrev pub event_text : Event → List ℕ
event_text (Text text) = codes "text " ++ encode_lower text
event_text Closed = codes "closed"
event_text (Refused refusal) = refusal_text refusal

abbrev pub entry_text : Entry → List ℕ
entry_text entry = codes "lane " ++ decimal entry.lane ++ codes " " ++ event_text entry.event

abbrev pub entry_line : Entry → List ℕ
entry_line entry = line_of (entry_text entry)

abbrev pub entry_lines : List Entry → List ℕ
entry_lines entries = concat (map entry_line entries)

-- how much of a sender's texts is sealed
abbrev pub ending_name : Ending → List ℕ
ending_name Done = codes "DONE"
ending_name LastNumber = codes "LAST_NUMBER"

abbrev pub sent_text : Sent → List ℕ
sent_text sent =
    codes "sent " ++ decimal sent.sealed ++ codes " of " ++ decimal sent.texts ++ codes " "
    ++ ending_name sent.ending

abbrev pub sent_line : Sent → List ℕ
sent_line sent = line_of (sent_text sent)

-- whether the close of a lane that has ended was accepted
abbrev pub state_name : Status → List ℕ
state_name status.Closed = codes "CLOSED"
state_name status.Truncated = codes "TRUNCATED"
state_name status.Live = codes "TRUNCATED"

abbrev pub state_text : ℕ → Status → List ℕ
state_text lane state = codes "lane " ++ decimal lane ++ codes " " ++ state_name state

abbrev pub state_line : ℕ → Status → List ℕ
state_line lane state = line_of (state_text lane state)

abbrev pub is_closed_state : Status → Bool
is_closed_state status.Closed = true
is_closed_state status.Truncated = false
is_closed_state status.Live = false

-- how far a lane has come when it has ended
abbrev pub state_by : Bool → Status
state_by closed = if closed then status.Closed else status.Truncated

-- how each lane ended, from a lane on: how much its sender sealed, and whether its close was
-- accepted
abbrev pub end_text : ℕ → Sent → Status → List ℕ
end_text lane sent state =
    codes "lane " ++ decimal lane ++ codes " " ++ sent_text sent ++ codes " " ++ state_name state

abbrev pub end_line : ℕ → Sent → Status → List ℕ
end_line lane sent state = line_of (end_text lane sent state)

abbrev pub end_lines : ℕ → List Sent → LogState → List ℕ
end_lines lane [] log = []
end_lines lane (sent ∷ sents) log =
    end_line lane sent (status_of log lane) ++ end_lines (lane + 1) sents log

-- whether every lane's close was accepted, from a lane on
abbrev pub are_closed : ℕ → List Sent → LogState → Bool
are_closed lane [] log = true
are_closed lane (sent ∷ sents) log =
    is_closed_state (status_of log lane) && are_closed (lane + 1) sents log

-- the exit status: 0 where all are closed, else 3
abbrev pub status_by : Bool → ℕ
status_by closed = if closed then 0 else 3
