use Rattle.std.proofs.Common.{rules, slice_index, ◌∙◌, sym, arith}
use Rattle.sha1.specs.Sha1.{ch}
use Rattle.sha1.proofs.Schedule.{rounds_window, round_fn_choose, round_constant_choose}
use Rattle.krb_digests.specs.Lanes.{lane}
use Rattle.krb_digests.proofs.LaneLemmas.{of_variables}
use Rattle.krb_digests.proofs.compression.choose_step.Goals as goal

pub returns : goal.returns
returns c j b h lt held =
    let v = lane j c.args.v in
    rounds_window b h (lane j c.args.w.now) v c.args.t _ _ _ _ _ (omega arith) (omega arith) held.0 held.1
    (c.next_word-word.ensures.value j lt) (c.next_word-word.ensures.window j lt)
    (of_variables ch c.args.v j (slice_index c.choose.result j) (search rules) (c.choose.ensures j lt)
    ∙ sym (round_fn_choose c.args.t (slice_index v 1) (slice_index v 2) (slice_index v 3) (omega arith)))
    (sym (round_constant_choose c.args.t (omega arith))) (c.round.ensures j lt)
