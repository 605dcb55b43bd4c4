use Rattle.std.proofs.Common.{◌≡◌, true, rules}
use Rattle.krb_commands.specs.declared.form.Form.TheVariants.{Any}
use Rattle.krb_commands.specs.Key.{key_of}
use Rattle.krb_commands.specs.Reading.{is_message}
use Rattle.krb_commands.proofs.ShowLemmas.{nothing_of_input, whole_shown, whole_prefix, on_err}
use Rattle.krb_commands.proofs.messages.show_any.Goals as goal

pub returns-in_err-whole-clause-prefix : goal.returns-in_err-whole-clause-prefix
returns-in_err-whole-clause-prefix g c = on_err _ c.from_residual.result (nothing_of_input Any _ _ c.args.input.now)

pub returns-in_err-accepted-clause-prefix : goal.returns-in_err-accepted-clause-prefix
returns-in_err-accepted-clause-prefix g c =
    let is : is_message c.in_ok-whole.whole ≡ true = search rules in
    on_err _ c.from_residual-in_err-accepted.result
    (whole_prefix (key_of c.args.openers) c.args.input.now c.in_ok-whole.whole c.in_ok-whole.ensures.reads _ _ is c.in_err-accepted.ensures.prefix)

pub returns-clause-shown : goal.returns-clause-shown
returns-clause-shown g c =
    let is : is_message c.in_ok-whole.whole ≡ true = search rules in
    whole_shown (key_of c.args.openers) c.args.input.now c.in_ok-whole.whole c.in_ok-whole.ensures.reads _ _ c.in_ok-accepted.accepted _ is
    c.in_ok-accepted.ensures.printed c.in_ok-accepted.ensures.accepted c.status_of.ensures
