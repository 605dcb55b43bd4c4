use Rattle.krb_program.proofs.CommandLemmas.{entered_from}
use Rattle.krb_program.proofs.command.entered.Goals as goal

pub returns : goal.returns
returns c =
    entered_from c.args.matches.now c.subcommand.result c.unwrap.result _ c.subcommand.ensures.name c.subcommand.ensures.rows c.unwrap.ensures c.of_word.ensures
    c.get_str.result c.form_of.ensures c.get_str.ensures c.get_str-2.ensures c.get_str-3.ensures
    c.get_str-4.result c.is_set.ensures c.get_str-4.ensures
