use Rattle.std.proofs.Common.{Option, Some, sym, ap, subst, ◌∙◌}
use Rattle.krb_seal.specs.Sealer.{SealerState}
use Rattle.krb_c.specs.Exports.{IsNextSize}
use Rattle.krb_c.proofs.Told.{on_told}
use Rattle.krb_c.proofs.sealer_calls.krbrelay_sealer_frame_size.Goals as goal

pub returns-clause-size : goal.returns-clause-size
returns-clause-size c = λ zero.
    let told = on_told (IsNextSize (Some c.deref.result.now) c.args.len c.args.at.now) c.next_size-told.result c.answer.new.size (c.answer.ensures.told zero) c.next_size-told.ensures.size in
    let is = ap (λ (s : SealerState). Some s) c.deref.ensures ∙ sym c.in-Some.ensures.taken in
    subst (λ (s : Option SealerState). IsNextSize s c.args.len c.args.at.now c.answer.new.size) is told
