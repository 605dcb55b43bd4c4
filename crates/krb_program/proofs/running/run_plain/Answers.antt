use Rattle.krb_program.proofs.RunningLemmas.{plain_kept, plain_unflushed}
use Rattle.krb_program.proofs.running.run_plain.Goals as goal

pub returns-then-is_err-clause-opened : goal.returns-then-is_err-clause-opened
returns-then-is_err-clause-opened g c =
    let opened = c.open_plain-outcome.ensures in
    plain_unflushed _ _ _ _ c.flush.ensures.bytes c.open_plain-outcome.result opened.printed opened.prefix

pub returns-clause-opened : goal.returns-clause-opened
returns-clause-opened g c =
    let opened = c.open_plain-outcome.ensures in
    plain_kept _ _ _ _ c.open_plain-outcome.result c.flush.ensures.bytes opened.printed opened.prefix opened.reading opened.nothing opened.never_stopped opened.no_thread opened.no_key
