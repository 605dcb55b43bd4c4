use Rattle.std.proofs.Common.{arith}
use Rattle.krb_digests.proofs.LaneLemmas.{lane_word}
use Rattle.krb_digests.proofs.compression.add_state.Goals as goal

pub returns : goal.returns
returns c j h =
    let s = c.args.state.now in
    let v = c.args.v in
    rw (
      c.add.ensures j h,
      c.add-2.ensures j h,
      c.add-3.ensures j h,
      c.add-4.ensures j h,
      c.add-5.ensures j h,
      lane_word s j 0 (omega arith),
      lane_word s j 1 (omega arith),
      lane_word s j 2 (omega arith),
      lane_word s j 3 (omega arith),
      lane_word s j 4 (omega arith),
      lane_word v j 0 (omega arith),
      lane_word v j 1 (omega arith),
      lane_word v j 2 (omega arith),
      lane_word v j 3 (omega arith),
      lane_word v j 4 (omega arith),
    )
