-- Of sealing several messages by a handle.
use Rattle.std.specs.Prelude.{◌≡◌, ◌≤◌, ◌<◌, ◌⊎◌, ℕ, List, length, Option, Some, None, Result, Ok, Err}
use Rattle.krb_seal.specs.Lent.{advanced_by}
use Rattle.krb_seal.specs.Sealer.{SealerState}
use Rattle.krb_structs.specs.declared.fault.Fault.TheVariants.{Argument, Empty}
use Rattle.krb_structs.specs.Fault.{Needs, fault_code}
use Rattle.krb_structs.specs.Peer.{PeerState, peer_sealed_many}
use Rattle.krb_calls.specs.declared.many_fault.ManyFault.{ManyFault}
use Rattle.krb_calls.specs.declared.many_fault.ManyFault.TheVariants.{Message, All}
use Rattle.krb_calls.specs.declared.unsealed.KrbUnsealed.{KrbUnsealed}
use Rattle.krb_calls.specs.Many.{ManyAnswer}
use Rattle.krb_calls.specs.Packed.{SealsPacked}

-- the handle holds a sealer, and these are the frames at its next numbers, with their sizes
abbrev pub SealsManyTo : Option SealerState → List KrbUnsealed → List ℕ → List ℕ → List ℕ → List ℕ
    → Type 0
SealsManyTo None ms old new old_sizes new_sizes = ⊥
SealsManyTo (Some s) ms old new old_sizes new_sizes = SealsPacked s ms old new old_sizes new_sizes

-- a handle with a sealer that sealed n frames more
abbrev pub advanced_by_if : Option SealerState → ℕ → Option SealerState
advanced_by_if None n = None
advanced_by_if (Some s) n = Some (advanced_by s n)

-- the number that is answered
abbrev pub many_code : Result (Unit {0}) ManyFault → ℕ
many_code (Ok done) = 0
many_code (Err (Message index fault)) = fault_code fault
many_code (Err (All fault)) = fault_code fault

-- what C gets for the message that fails, which stays where the fault is of none
abbrev pub failed_by : Result (Unit {0}) ManyFault → ℕ → ℕ
failed_by (Ok done) old = old
failed_by (Err (Message index fault)) old = index
failed_by (Err (All fault)) old = old

-- the most messages of one call
abbrev pub most_messages : ℕ
most_messages = 64

-- of the messages by a handle: it holds nothing, or as its sealer answers
abbrev pub AnswerOfMany : Option SealerState → List KrbUnsealed → ℕ → ℕ → ℕ → ℕ → Type 0
AnswerOfMany None ms room old new code = (code ≡ fault_code Empty) × (new ≡ old)
AnswerOfMany (Some s) ms room old new code =
    (r : Result (Unit {0}) ManyFault) × ManyAnswer s ms room r × (code ≡ many_code r)
    × (new ≡ failed_by r old)

-- so it is of at most 64 messages
abbrev pub ManyAnswerBy : Option SealerState → List KrbUnsealed → ℕ → ℕ → ℕ → ℕ → Type 0
ManyAnswerBy o ms room old new code =
    ((most_messages < length ms) × (code ≡ fault_code Argument) × (new ≡ old))
    ⊎ ((length ms ≤ most_messages) × AnswerOfMany o ms room old new code)

-- ---- by a peer's handle: its sealer's, whose numbers it passes over

-- its sealer
abbrev pub sealer_if : Option PeerState → Option SealerState
sealer_if None = None
sealer_if (Some p) = Some p.sealer

-- a handle with a peer that sealed n frames more
abbrev pub sealed_many_if : Option PeerState → ℕ → Option PeerState
sealed_many_if None n = None
sealed_many_if (Some p) n = Some (peer_sealed_many p n)
