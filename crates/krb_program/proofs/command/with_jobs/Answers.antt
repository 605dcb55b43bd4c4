use Rattle.std.proofs.Common.{◌≡◌, ◌∙◌, ap, Result, Ok, Err, IfOk}
use Rattle.clap.specs.Words.{app_of, App}
use Rattle.clap.specs.declared.builder.command.Command.{Command}
use Rattle.krb_program.specs.Command.{with_word}
use Rattle.krb_program.specs.declared.command.Cmd.{Cmd}
use Rattle.krb_program.specs.declared.command.Cmd.TheVariants.{Seal, Open, Relay}
use Rattle.krb_program.proofs.command.with_jobs.Goals as goal

-- one word more
with_last : {E : Type 0} (before : App) (line : Command) (word : Cmd) (r : Result Command E) → app_of line ≡ before
    → IfOk r (λ command. app_of command ≡ with_word (app_of line) word) → IfOk r (λ command. app_of command ≡ with_word before word)
with_last before line word (Ok r) is last = last ∙ ap (λ a. with_word a word) is
with_last before line word (Err e) is last = tt

pub returns : goal.returns
returns c =
    let both : app_of c.in_ok-line-2.line ≡ with_word (with_word (app_of c.args.line) Seal) Open =
    c.in_ok-line-2.ensures ∙ ap (λ a. with_word a Open) c.in_ok-line.ensures in
    with_last (with_word (with_word (app_of c.args.line) Seal) Open) c.in_ok-line-2.line Relay c.with_command-2.result both c.with_command-2.ensures
