use Rattle.std.proofs.Common.{◌≡◌, ◌∙◌, Ok, sym}
use Rattle.krb_program.specs.Command.{text_behind}
use Rattle.krb_program.specs.Running.{stated_of}
use Rattle.krb_program.proofs.RunningLemmas.{file_shown, file_unflushed}
use Rattle.krb_program.proofs.running.show_file.Goals as goal

pub returns-then-is_err-clause-shown : goal.returns-then-is_err-clause-shown
returns-then-is_err-clause-shown g c =
    let stated : stated_of (text_behind c.args.etype) ≡ Ok c.in-Ok.stated = sym c.stated_type.ensures ∙ c.in-Ok.is in
    file_unflushed _ _ _ _ _ _ _ c.show_under-outcome.result stated c.flush.ensures.bytes c.show_under-outcome.ensures

pub returns-clause-shown : goal.returns-clause-shown
returns-clause-shown g c =
    let stated : stated_of (text_behind c.args.etype) ≡ Ok c.in-Ok.stated = sym c.stated_type.ensures ∙ c.in-Ok.is in
    file_shown _ _ _ _ _ _ _ c.show_under-outcome.result stated c.flush.ensures.bytes c.show_under-outcome.ensures
