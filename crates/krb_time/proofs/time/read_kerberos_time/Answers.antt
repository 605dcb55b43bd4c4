use Rattle.std.proofs.Common.{sym, ap, ◌∙◌}
use Rattle.krb_time.specs.Reading.{time_of}
use Rattle.krb_time.proofs.Times.{time-found, time-again}
use Rattle.krb_time.proofs.time.read_kerberos_time.Goals as goal

pub returns : goal.returns
returns c = λ s. (λ e. time-found c.args.text.now s (sym c.time_at.ensures ∙ e), λ h. c.time_at.ensures ∙ ap time_of h.1 ∙ time-again s h.0)
