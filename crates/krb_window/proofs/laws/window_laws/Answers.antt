use Rattle.krb_window.proofs.LawLemmas.{taken_once, is_exact}
use Rattle.krb_window.proofs.laws.window_laws.Goals as goal

pub returns-clause-once : goal.returns-clause-once
returns-clause-once c = taken_once

pub returns-clause-exact : goal.returns-clause-exact
returns-clause-exact c = is_exact
