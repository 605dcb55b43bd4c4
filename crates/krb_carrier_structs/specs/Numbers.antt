-- What the numbers of the header say.
use Rattle.std.specs.Prelude.{ℕ, ◌==◌, Bool, not, Option, Some, None, if◌then◌else◌}
use Rattle.krb_engine.specs.declared.sending.Asks.{Asks}
use Rattle.krb_engine.specs.declared.sending.Asks.TheVariants as asks
use Rattle.krb_engine.specs.declared.sending.Ended.{Ended}
use Rattle.krb_engine.specs.declared.sending.Ended.TheVariants as ends
use Rattle.krb_engine.specs.declared.sending.Heard.{Heard}
use Rattle.krb_engine.specs.declared.sending.Heard.TheVariants as hears
use Rattle.krb_engine.specs.declared.sending.Stands.{Stands}
use Rattle.krb_engine.specs.declared.sending.Stands.TheVariants as standings
use Rattle.krb_engine.specs.declared.receiving.Outcome.{Outcome}
use Rattle.krb_engine.specs.declared.receiving.Outcome.TheVariants as outcomes
use Rattle.krb_engine.specs.declared.shards.Read.{Read}
use Rattle.krb_engine.specs.declared.shards.Read.TheVariants as reads
use Rattle.krb_engine.specs.declared.stream.Judged.{Judged}
use Rattle.krb_engine.specs.declared.stream.Judged.TheVariants as judgements

-- any number but 0 says yes
abbrev pub says : ℕ → Bool
says n = not (n == 0)

-- what a receipt asks for: 0 is no receipt
abbrev pub told_asks : ℕ → Option Asks
told_asks n =
    if n == 1 then Some asks.Nothing
    else (if n == 2 then Some asks.Missing else (if n == 3 then Some asks.Refused else None))

-- why an end is stopped: 0 is one that isn't
abbrev pub told_ended : ℕ → Option Ended
told_ended n = if n == 1 then Some ends.Older else (if n == 2 then Some ends.Forked else None)

-- what a sender finds by a receipt
abbrev pub heard_number : Heard → ℕ
heard_number hears.Nothing = 0
heard_number hears.Delivered = 1
heard_number hears.Ended = 2

-- why a session stands, and 0 where it doesn't
abbrev pub standing_number : Stands → ℕ
standing_number (standings.Stopped ends.Older) = 1
standing_number (standings.Stopped ends.Forked) = 2
standing_number standings.Refused = 3
standing_number standings.Unanswered = 4
standing_number standings.Unconfirmed = 5

abbrev pub stands_number : Option Stands → ℕ
stands_number None = 0
stands_number (Some stands) = standing_number stands

-- what a read results in
abbrev pub read_number : Read → ℕ
read_number reads.Nothing = 0
read_number reads.Elsewhere = 1
read_number reads.Take = 2

-- what an opening is taken for
abbrev pub judged_number : Judged → ℕ
judged_number judgements.Begins = 0
judged_number judgements.Later = 1
judged_number judgements.Forked = 2

-- what a frame is taken for
abbrev pub outcome_number : Outcome → ℕ
outcome_number outcomes.Accepted = 0
outcome_number outcomes.Repeat = 1
outcome_number outcomes.Early = 2
outcome_number outcomes.Unknown = 3
outcome_number outcomes.Unsettled = 4
