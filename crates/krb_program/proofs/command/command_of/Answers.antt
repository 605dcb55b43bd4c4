use Rattle.std.proofs.Common.{◌≡◌, ◌∙◌, [], ap, subst, map}
use Rattle.clap.specs.Words.{is_simple, is_simple_and_free, fault_of, subcommand_of}
use Rattle.krb_program.specs.Command.{IsEntered}
use Rattle.krb_program.proofs.CommandLemmas.{parsed_is_named, is_simple_app, is_free_app}
use Rattle.krb_program.proofs.command.command_of.Goals as goal

pub entered-requires : goal.entered-requires
entered-requires g c =
    let app = c.in_ok-command.ensures in
    let rows = (c.in_ok-matches.ensures.matches (ap is_simple app ∙ is_simple_app)).1 ∙ ap (λ a. subcommand_of a (map g.S.AsStr.text c.args.words.now)) app in
    let none = c.in_ok-matches.ensures.kinds (ap is_simple_and_free app ∙ is_free_app) in
    parsed_is_named c.in_ok-matches.matches (map g.S.AsStr.text c.args.words.now) rows (subst (λ a. fault_of a (map g.S.AsStr.text c.args.words.now) ≡ []) app none)

pub returns-clause-asked : goal.returns-clause-asked
returns-clause-asked g c =
    let app = c.in_ok-command.ensures in
    let rows = (c.in_ok-matches.ensures.matches (ap is_simple app ∙ is_simple_app)).1 ∙ ap (λ a. subcommand_of a (map g.S.AsStr.text c.args.words.now)) app in
    subst (λ found. IsEntered found c.entered.result) rows c.entered.ensures

pub returns-clause-faults : goal.returns-clause-faults
returns-clause-faults g c =
    let app = c.in_ok-command.ensures in
    let none = c.in_ok-matches.ensures.kinds (ap is_simple_and_free app ∙ is_free_app) in
    subst (λ a. fault_of a (map g.S.AsStr.text c.args.words.now) ≡ []) app none
