-- What is opened of both halves is opened of all.
use Rattle.std.proofs.Common.{◌≡◌, length, arith}
use Rattle.krb_relay.proofs.OpeningLemmas.{both_open}
use Rattle.krb_relay.proofs.opening.+halves.Goals as goal

pub open_lanes-returns : goal.open_lanes-returns
open_lanes-returns g t c =
    let r = c.split_at_mut-front in
    let w = c.split_at_mut-first in
    let n = r.ensures.front_len in
    let m = w.ensures.front_len in
    let even : length r.result.0.now ≡ length w.result.0.now = omega (arith, n, m) in
    both_open r.result.0.now r.result.1.now c.args.receivings.now w.result.0.now w.result.1.now c.args.waiting.now r.ensures.value w.ensures.value even _ _ _ _ c.open_halves.ensures.front c.open_halves.ensures.back
