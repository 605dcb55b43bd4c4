use Rattle.std.proofs.Common.{Bool, cond, Option, Some, None, ap, ap₂, codes}
use Rattle.std.specs.Str.{bytes_eq}
use Rattle.krb_seal.specs.declared.session.Mode.{Mode}
use Rattle.krb_seal.specs.declared.session.Mode.TheVariants.{Safe, Priv}
use Rattle.krb_job.proofs.values.mode_named.Goals as goal

-- the mode, by whether the text is either name
abbrev by_names : Bool → Bool → Option Mode
by_names safe priv = cond safe (Some Safe) (cond priv (Some Priv) None)

pub returns-then-eq : goal.returns-then-eq
returns-then-eq c = ap (λ (safe : Bool). by_names safe (bytes_eq c.args.text.now (codes "priv"))) c.if-eq.ensures

pub returns-then-eq-2 : goal.returns-then-eq-2
returns-then-eq-2 c = ap₂ by_names c.if-eq.ensures c.if-eq-2.ensures

pub returns-else-eq-2 : goal.returns-else-eq-2
returns-else-eq-2 c = ap₂ by_names c.if-eq.ensures c.if-eq-2.ensures
