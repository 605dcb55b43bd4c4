use Rattle.std.proofs.Common.{arith, w8, w16, w64, sym, ◌∙◌}
use Rattle.std.proofs.lemmas.Int.{to_z_pos}
use Rattle.krb_time.specs.Reading.{second_of}
use Rattle.krb_time.proofs.DateTimes.{FindsSecond, seconds, no-second, ok_value, back}
use Rattle.krb_time.proofs.time.second_of.Goals as goal

pub returns-in_err-at : goal.returns-in_err-at
returns-in_err-at c =
    let ok = rw (to_z_pos w16 c.args.year (omega arith), to_z_pos w8 c.args.month (omega arith), to_z_pos w8 c.args.day (omega arith), to_z_pos w8 c.args.hour (omega arith), to_z_pos w8 c.args.minute (omega arith), to_z_pos w8 c.args.second (omega arith)) at c.new.ensures.succeeds in
    c.from_residual.ensures ∙ sym (no-second c.new.result c.args.year c.args.month c.args.day c.args.hour c.args.minute c.args.second (omega arith) (sym c.in_err-at.ensures.value) ok)

known : (c : goal.After-as_secs) → FindsSecond c.as_secs.result (second_of c.args.year c.args.month c.args.day c.args.hour c.args.minute c.args.second)
known c =
    let v = ok_value _ c.new.result c.in_ok-at.at c.in_ok-at.ensures.value c.new.ensures.value in
    let parts = rw (to_z_pos w16 c.args.year (omega arith), to_z_pos w8 c.args.month (omega arith), to_z_pos w8 c.args.day (omega arith), to_z_pos w8 c.args.hour (omega arith), to_z_pos w8 c.args.minute (omega arith), to_z_pos w8 c.args.second (omega arith)) at v in
    seconds c.in_ok-at.at c.epoch.result _ c.as_secs.result c.args.year c.args.month c.args.day c.args.hour c.args.minute c.args.second (omega arith) parts.0 parts.1 c.epoch.ensures c.duration_since.ensures c.as_secs.ensures

pub overflow_cast-result : goal.overflow_cast-result
overflow_cast-result c =
    let k = known c in
    rw (back w64 c.as_secs.result k.s k.value (omega (arith, k.last))) (tt, omega (arith, k.last))

pub returns : goal.returns
returns c =
    let k = known c in
    rw (back w64 c.as_secs.result k.s k.value (omega (arith, k.last))) (sym k.found)
