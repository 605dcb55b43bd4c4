-- One subcommand more.
use Rattle.std.proofs.Common.{◌≡◌, ◌∙◌, ap, false, Result, Ok, Err, IfOk}
use Rattle.clap.specs.Simple.{with_subcommand}
use Rattle.clap.specs.Words.{app_of, AddsSubcommand, App}
use Rattle.clap.specs.declared.builder.command.Command.TheViews.{out-Command as fields_of}
use Rattle.clap.specs.declared.builder.command.Command.{Command}
use Rattle.krb_program.proofs.command.with_command.Goals as goal

added : {E : Type 0} (line sub : Command) (app : App) (r : Result Command E) → (fields_of sub).has_globals ≡ false
    → app_of sub ≡ app → IfOk r (AddsSubcommand line sub)
    → IfOk r (λ command. app_of command ≡ with_subcommand (app_of line) app.top)
added line sub app (Ok r) local is adds = adds.shape local ∙ ap (λ (a : App). with_subcommand (app_of line) a.top) is
added line sub app (Err e) local is adds = tt

pub returns : goal.returns
returns c = added _ _ _ c.subcommand.result c.described.ensures.local c.described.ensures.app c.subcommand.ensures
