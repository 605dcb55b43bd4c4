-- A command with three texts more, which a parse doesn't read.
use Rattle.std.proofs.Common.{◌∙◌, ap}
use Rattle.clap.specs.Simple.{app_of_fields}
use Rattle.krb_program.proofs.command.described.Goals as goal

pub returns-clause-app : goal.returns-clause-app
returns-clause-app c =
    ap app_of_fields c.after_help.ensures ∙ ap app_of_fields c.about.ensures ∙ ap app_of_fields c.override_usage.ensures ∙ c.new.ensures.app

pub returns-clause-local : goal.returns-clause-local
returns-clause-local c =
    ap (λ f. f.has_globals) c.after_help.ensures ∙ ap (λ f. f.has_globals) c.about.ensures ∙ ap (λ f. f.has_globals) c.override_usage.ensures ∙ c.new.ensures.local
