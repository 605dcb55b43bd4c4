use Rattle.std.proofs.Common.{rules, slice_index, sym}
use Rattle.sha1.specs.Sha1.{ch}
use Rattle.sha1.proofs.Schedule.{rounds_first}
use Rattle.krb_digests.specs.Lanes.{lane}
use Rattle.krb_digests.proofs.LaneLemmas.{lane_word, of_variables}
use Rattle.krb_digests.proofs.compression.first_step.Goals as goal

pub returns : goal.returns
returns c j b h lt window before =
    rounds_first b h (lane j c.args.w.now) (lane j c.args.v) c.args.t _ _ _ c.requires window before
    (sym (lane_word c.args.w.now j c.args.t (search rules)))
    (of_variables ch c.args.v j (slice_index c.choose.result j) (search rules) (c.choose.ensures j lt))
    (c.round.ensures j lt)
