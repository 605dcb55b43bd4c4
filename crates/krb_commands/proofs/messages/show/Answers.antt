use Rattle.krb_commands.proofs.ShowLemmas.{nothing_shown, on_err, shown_of_all, prefix_of_all}
use Rattle.krb_commands.proofs.messages.show.Goals as goal

pub returns-in_err-input-clause-prefix : goal.returns-in_err-input-clause-prefix
returns-in_err-input-clause-prefix g c = on_err _ c.from_residual.result (nothing_shown _ _ _ _)

pub returns-clause-shown : goal.returns-clause-shown
returns-clause-shown g c =
    shown_of_all _ _ _ _ _ _ c.in_ok-input.input c.show_input.result c.in_ok-input.ensures.whole (rw c.as_slice.ensures at c.show_input.ensures.shown)

pub returns-clause-prefix : goal.returns-clause-prefix
returns-clause-prefix g c =
    prefix_of_all _ _ _ _ _ _ c.in_ok-input.input c.show_input.result c.in_ok-input.ensures.whole (rw c.as_slice.ensures at c.show_input.ensures.prefix)
