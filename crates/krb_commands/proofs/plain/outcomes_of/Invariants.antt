use Rattle.std.proofs.Common.{take}
use Rattle.krb_commands.proofs.PlainLemmas.{HaveOutcomes}
use Rattle.krb_commands.proofs.plain.outcomes_of.Given as goal

-- the first frames were opened
abbrev pub invariant-loop-place : goal.invariant-loop-place
invariant-loop-place l =
    let receiver = l.fn.receiving.receiver in
    HaveOutcomes receiver.opener l.fn.receiving.nows.items receiver.demand.expected (take l.place l.frames) l.outcomes.items l.number
