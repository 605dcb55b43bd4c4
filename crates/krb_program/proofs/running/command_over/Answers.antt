use Rattle.krb_program.proofs.running.command_over.Goals as goal

pub returns-in-Seal-clause-bad_input : goal.returns-in-Seal-clause-bad_input
returns-in-Seal-clause-bad_input g c = rw c.in-Seal.is (λ bad named parsed is. c.seal.ensures.reading.bad_input parsed is bad named)

pub returns-in-Relay-clause-bad_input : goal.returns-in-Relay-clause-bad_input
returns-in-Relay-clause-bad_input g c = rw c.in-Relay.is (λ bad named parsed is. c.relay.ensures.reading.bad_input parsed is bad named)

pub returns-in-Relay-clause-stopped : goal.returns-in-Relay-clause-stopped
returns-in-Relay-clause-stopped g c = rw c.in-Relay.is (λ lines named parsed is. c.relay.ensures.stopped parsed is lines named)

pub returns-in-Open-clause-bad_input : goal.returns-in-Open-clause-bad_input
returns-in-Open-clause-bad_input g c = rw c.in-Open.is (λ bad named parsed is. c.open.ensures.reading.bad_input parsed is bad named)
