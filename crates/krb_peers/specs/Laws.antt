-- What holds of senders, receivers and logs: what the laws state.
use Rattle.std.specs.Prelude.{◌≡◌, ◌↔◌, ◌<◌, ℕ, suc, ◌+◌, ◌≤◌, List, [], ◌∷◌, ◌++◌, length, take}
use Rattle.std.specs.Prelude.{All, IsOk, drop}
use Rattle.std.specs.List.{Contains, flat_map, list_any}
use Rattle.krb_base.specs.Prefix.{IsPrefix}
use Rattle.krb_base.specs.Bytes.{AreBytes}
use Rattle.krb_seal.specs.Opens.{OpenerState}
use Rattle.krb_record.specs.declared.record.Record.{Record}
use Rattle.krb_record.specs.declared.record.Record.TheVariants.{Close}
use Rattle.krb_peers.specs.declared.log.Event.{Event}
use Rattle.krb_peers.specs.declared.log.Entry.{Entry}
use Rattle.krb_peers.specs.declared.sending.Sent.{Sent}
use Rattle.krb_seal.specs.Sealer.{SealerState}
use Rattle.krb_record.specs.Record.{texts_of, is_close}
use Rattle.krb_peers.specs.Demand.{Demand}
use Rattle.krb_peers.specs.Order.{Offer, Answer, answers_to, first_demand, demand_after}
use Rattle.krb_peers.specs.Accepted.{Accepted, accepted_of, AreNumbered, EndsWithItsClose}
use Rattle.krb_peers.specs.Sender.{Source, AreFrames}
use Rattle.krb_peers.specs.Moments.{moment_at}
use Rattle.krb_peers.specs.ReceiverState.{ReceiverState}
use Rattle.krb_peers.specs.Verdicts.{Verdict, AllBytes, AreVerdicts, AreJudged, IsVerdict, verdict}
use Rattle.krb_peers.specs.Verdicts.{verdicts, records_of, events_from}
use Rattle.krb_peers.specs.Log.{events_of, entries_for}
use Rattle.krb_peers.specs.Session.{FitLimits, Sealed, frames_in}
use Rattle.krb_peers.specs.Attempt.{Attempt, ends_at, demand_at, IsAttempt, IsAttemptAfter}
use Rattle.krb_peers.specs.Attempt.{TakesInTurn, CanTakeAll}
use Rattle.krb_peers.specs.LogState.{LogState}
use Rattle.krb_peers.specs.Logged.{HasLogged, IsShut}
use Rattle.krb_peers.specs.Ends.{Ends}
use Rattle.krb_peers.specs.Run.{Run, AreRuns, OfRuns}
use Rattle.krb_peers.specs.Claims.{NothingAfterClose, RefusesExactly, RefusalsDeliverNothing}
use Rattle.krb_peers.specs.Claims.{FramesHeadline}
use Rattle.krb_peers.specs.Planned.{Headline}
use Rattle.krb_peers.specs.Rounds.{AreRounds, joined, list_of, rounds, rounds_below, NoneLonger}
use Rattle.krb_peers.specs.Whole.{rounds_of, EndsWhole, IsRelayed, IsWhole}

-- ---- offers

-- each list of offers has one list of answers, the one that an order gives offer by offer
abbrev pub OneListOfAnswers : Type 0
OneListOfAnswers = (first : ℕ) (offers : List Offer) (answers : List Answer)
    → Accepted first offers answers ↔ (answers ≡ answers_to (first_demand first) offers)

-- nothing is accepted after a close
abbrev pub CloseIsLast : Type 0
CloseIsLast =
    (first : ℕ) (offers : List Offer) (answers : List Answer) → Accepted first offers answers
    → (front back : List Record) → accepted_of offers answers ≡ front ++ Close ∷ back → back ≡ []

-- it holds if each offer numbered `first + k` carries record k of the list
abbrev pub OfNumbered : (List Record → List Record → Type 0) → Type 0
OfNumbered Claim =
    (first : ℕ) (records : List Record) (offers : List Offer) (answers : List Answer)
    → Accepted first offers answers
    → AreNumbered first records offers → Claim records (accepted_of offers answers)

-- what is accepted is a prefix of the list, and so are its texts
abbrev pub AcceptsPrefix : Type 0
AcceptsPrefix = OfNumbered (λ records accepted. IsPrefix accepted records)

abbrev pub AcceptsTextsPrefix : Type 0
AcceptsTextsPrefix =
    OfNumbered
    (λ records accepted. IsPrefix (flat_map texts_of accepted) (flat_map texts_of records))

-- and it is the whole list if the list's one close is last and was accepted
abbrev pub AcceptsWhole : Type 0
AcceptsWhole =
    OfNumbered
    (λ records accepted. EndsWithItsClose records → Contains accepted Close → accepted ≡ records)

-- ---- verdicts

-- a frame of bytes has one verdict
abbrev pub OneVerdict : Type 0
OneVerdict =
    (opener : OpenerState) (start : Demand) (now : ℕ) (frame : List ℕ) (v : Verdict)
    → AreBytes frame
    → IsVerdict opener start now frame v ↔ (v ≡ verdict opener start now frame)

-- and frames of bytes have one list of verdicts
abbrev pub OneListOfVerdicts : Type 0
OneListOfVerdicts =
    (opener : OpenerState) (nows : List ℕ) (start : Demand) (frames : List (List ℕ))
    (answers : List Verdict)
    → AllBytes frames → AreVerdicts opener nows start 0 frames answers
    ↔ (answers ≡ verdicts opener nows start 0 frames)

-- one more frame brings one more verdict, by what is demanded then
abbrev pub VerdictsGoOn : Type 0
VerdictsGoOn =
    (opener : OpenerState) (nows : List ℕ) (start : Demand) (frames : List (List ℕ))
    (answers : List Verdict) (frame : List ℕ) (v : Verdict)
    → AreVerdicts opener nows start 0 frames answers
    → IsVerdict opener (demand_after start (records_of answers))
    (moment_at nows (length frames)) frame v
    → AreVerdicts opener nows start 0 (frames ++ frame ∷ []) (answers ++ v ∷ [])

-- and likewise of the list as it is computed
abbrev pub NextVerdict : Type 0
NextVerdict =
    (opener : OpenerState) (nows : List ℕ) (start : Demand) (frames : List (List ℕ))
    (frame : List ℕ)
    → let before = verdicts opener nows start 0 frames in
    let now = moment_at nows (length frames) in
    verdicts opener nows start 0 (frames ++ frame ∷ [])
    ≡ before ++ verdict opener (demand_after start (records_of before)) now frame ∷ []

-- the frames of a sender's records are one list
abbrev pub OneListOfFrames : Type 0
OneListOfFrames = (source : Source) (records : List Record) (some others : List (List ℕ))
    → AreFrames source records some → AreFrames source records others → some ≡ others

-- ---- the claims that rest on no premise

-- it holds of the verdicts on any frames
abbrev pub OfVerdicts : (ReceiverState → List ℕ → List (List ℕ) → List Verdict → Type 0) → Type 0
OfVerdicts Claim =
    (start : ReceiverState) (nows : List ℕ) (took : List (List ℕ)) (answers : List Verdict)
    → AreJudged start nows took answers → Claim start nows took answers

abbrev pub VerdictsAreQuietAfterClose : Type 0
VerdictsAreQuietAfterClose =
    OfVerdicts (λ start nows took answers. NothingAfterClose (events_from answers))

abbrev pub VerdictsRefuseExactly : Type 0
VerdictsRefuseExactly = OfVerdicts RefusesExactly

abbrev pub VerdictsOfRefusalsDeliverNothing : Type 0
VerdictsOfRefusalsDeliverNothing =
    (start : Demand) (answers : List Verdict)
    → RefusalsDeliverNothing start answers (events_from answers)

-- ---- a session whose frames anyone brings

-- it holds of each attempt at the records of a session
abbrev pub OfAttempts : (SealerState → List Record → ℕ → Attempt → Type 0) → Type 0
OfAttempts Claim =
    (sealer : SealerState) (records : List Record) (first : ℕ) (attempt : Attempt)
    → IsAttemptAfter sealer records first attempt → Claim sealer records first attempt

-- the headline holds of the events that any verdicts bring, as a log has them
abbrev pub FramesHaveHeadline : Type 0
FramesHaveHeadline =
    (sealer : SealerState) (records : List Record) (first : ℕ) (attempt : Attempt)
    (events : List Event)
    → AreJudged attempt.receiver attempt.nows attempt.took attempt.verdicts
    → events ≡ events_from attempt.verdicts
    → FramesHeadline sealer records first attempt events

-- together with the first records, what is accepted are the first records
abbrev pub AttemptsAcceptInOrder : Type 0
AttemptsAcceptInOrder = OfAttempts (λ sealer records first attempt.
    let accepted = records_of attempt.verdicts in
    (first + length accepted ≤ length records)
    × (take first records ++ accepted ≡ take (first + length accepted) records))

-- after record k in its turn, a number after its own is demanded
abbrev pub AttemptsDemandInTurn : Type 0
AttemptsDemandInTurn = OfAttempts (λ sealer records first attempt.
    (end : ℕ) (turn : TakesInTurn sealer records first end attempt) (k : ℕ) → FitLimits records
    → first ≤ k → k < end
    → sealer.next + k < (demand_at attempt (suc (turn.place k))).expected)

-- all of the rest is accepted if each record of it comes in its turn
abbrev pub AttemptsAcceptRest : Type 0
AttemptsAcceptRest = OfAttempts (λ sealer records first attempt.
    FitLimits records → TakesInTurn sealer records first (length records) attempt
    → (records_of attempt.verdicts ≡ drop first records)
    × ((ends_at attempt).closed ≡ list_any is_close records))

-- as many of the rest as frames are taken, if these come in turn and nothing else comes
abbrev pub AttemptsRefuseNone : Type 0
AttemptsRefuseNone = OfAttempts (λ sealer records first attempt.
    FitLimits records
    → TakesInTurn sealer records first (first + length attempt.took) attempt
    → All IsOk attempt.verdicts
    × (records_of attempt.verdicts ≡ take (length attempt.took) (drop first records)))

-- the premises can be met at once: a new receiver that takes all that is sealed in agreement makes an
-- attempt, and accepts all
abbrev pub AttemptsHappen : Type 0
AttemptsHappen =
    (sealer : SealerState) (records : List Record) (sealed : List Sealed)
    (receiver : ReceiverState) (nows : List ℕ) → CanTakeAll sealer records sealed receiver nows
    → (attempt : Attempt) × (attempt.receiver ≡ receiver) × (attempt.took ≡ frames_in sealed)
    × IsAttempt sealer records attempt × (records_of attempt.verdicts ≡ records)

-- ---- what a log has of a lane

-- nothing, before the first frame
abbrev pub NothingIsLogged : Type 0
NothingIsLogged = (start : ReceiverState) (nows : List ℕ) (lane : ℕ) (log : LogState)
    → events_of lane log.entries ≡ [] → HasLogged start nows lane [] log start []

-- after a close that is there, the receiver accepts no more
abbrev pub LoggedIsShut : Type 0
LoggedIsShut =
    (start : ReceiverState) (nows : List ℕ) (lane : ℕ) (took : List (List ℕ)) (log : LogState)
    (receiver : ReceiverState) (verdicts : List Verdict)
    → HasLogged start nows lane took log receiver verdicts → IsShut log lane receiver

-- ---- rounds

-- the entries of the groups of all lanes, each once, by their places and then by their lanes, are
-- one list
abbrev pub OneListOfRounds : Type 0
OneListOfRounds =
    (lists : List (List (List Event))) (entries : List Entry) → AreRounds lists entries
    ↔ (entries ≡ rounds lists)

-- the events of a lane stay in their order
abbrev pub RoundsKeepLanes : Type 0
RoundsKeepLanes =
    (lists : List (List (List Event))) (lane : ℕ)
    → events_of lane (rounds lists) ≡ joined (list_of lists lane)

-- one more group comes last, if no later lane has more groups than its lane had: of the rounds up
-- to it
abbrev pub RoundGoesOn : Type 0
RoundGoesOn =
    (front : List (List (List Event))) (groups : List (List Event)) (group : List Event)
    (back : List (List (List Event)))
    → NoneLonger (length groups) back
    → let before = rounds_below (suc (length groups)) (front ++ groups ∷ back) in
    rounds_below (suc (length groups)) (front ++ (groups ++ group ∷ []) ∷ back) ≡ before
    ++ entries_for (length front) group

-- and of all rounds, if no lane before it has more groups than it has then
abbrev pub RoundsGoOn : Type 0
RoundsGoOn =
    (front : List (List (List Event))) (groups : List (List Event)) (group : List Event)
    (back : List (List (List Event)))
    → NoneLonger (suc (length groups)) front → NoneLonger (length groups) back
    → rounds (front ++ (groups ++ group ∷ []) ∷ back) ≡ rounds (front ++ groups ∷ back)
    ++ entries_for (length front) group

-- ---- any relay

-- it follows if the log has the verdicts on prefixes of the lanes' wires, in rounds, and a lane
-- ends only after all that its wire carries
abbrev pub OfFronts : (List Ends → List Run → LogState → Type 0) → Type 0
OfFronts Claim =
    (lanes : List Ends) (runs : List Run) (log : LogState)
    → AreRuns lanes runs → log.entries ≡ rounds_of runs → OfRuns runs (EndsWhole log)
    → Claim lanes runs log

-- the headline holds of each lane
abbrev pub FrontsHaveHeadline : Type 0
FrontsHaveHeadline = OfFronts (λ lanes runs log. OfRuns runs (Headline log))

-- so the log is a relayed one
abbrev pub FrontsAreRelayed : Type 0
FrontsAreRelayed =
    OfFronts (λ lanes runs log. (relayed : IsRelayed lanes log) × (relayed.runs ≡ runs))

-- the whole log of given lanes is one list, and so is the report of how much their senders sealed
abbrev pub OneWholeLog : Type 0
OneWholeLog = (lanes : List Ends) (log other : LogState) (sents others : List Sent)
    → IsWhole lanes log sents → IsWhole lanes other others → (log.entries ≡ other.entries)
    × (sents ≡ others)
