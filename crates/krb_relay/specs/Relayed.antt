-- What a relay on threads leaves.
use Rattle.std.specs.Prelude.{◌≡◌, ℕ, ◌<◌, List, [], slice_get, Some}
use Rattle.krb_peers.specs.Ends.{Ends}
use Rattle.krb_peers.specs.LogState.{LogState}
use Rattle.krb_peers.specs.Run.{Run}
use Rattle.krb_peers.specs.Whole.{IsRelayed, IsWholeRun}
use Rattle.krb_relay.specs.declared.cause.Cause.{Cause}
use Rattle.krb_relay.specs.declared.cause.Cause.TheVariants.{BadPlan, Wiped}
use Rattle.krb_relay.specs.Sent.{IsTrueOf}

-- The same log, with no lane noted as ended. After a fault a lane's End may follow a prefix of its
-- wire: a worker that stops sends it too.
abbrev pub unended : LogState → LogState
unended log = record log { ended = [] }

-- The cause is true of this lane, of which nothing came. All that the wires of the lanes below it
-- carry was taken, under sealers that weren't wiped.
pub record IsLeast (runs : List Run) (lane : ℕ) (cause : Cause) : Type 0 where
  pub run : Run
  pub named : slice_get runs lane ≡ Some run
  pub reason : IsTrueOf run.ends.source run.took cause
  pub below : (other : ℕ) (its : Run) → other < lane → slice_get runs other ≡ Some its
      → IsWholeRun its

-- A bad plan and a wiped sealer are named at the least lane that has one.
abbrev pub NamesLeast : List Run → ℕ → Cause → Type 0
NamesLeast runs lane BadPlan = IsLeast runs lane BadPlan
NamesLeast runs lane Wiped = IsLeast runs lane Wiped
NamesLeast runs lane cause = Unit {0}

-- Of each lane a prefix of its wire was taken, even an empty one. The log has the verdicts on these
-- in rounds, and the headline holds of each lane. The cause is true of the lane that is named.
pub record StopsRelay (lanes : List Ends) (log : LogState) (lane : ℕ) (cause : Cause) : Type 0 where
  pub relayed : IsRelayed lanes (unended log)
  pub names : NamesLeast (relayed.runs) lane cause
