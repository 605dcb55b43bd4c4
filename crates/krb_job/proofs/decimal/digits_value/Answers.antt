use Rattle.std.proofs.Common.{◌≡◌, None, Some, get_or, sym, ◌∙◌, arith}
use Rattle.std.proofs.lemmas.Grind.{common_steps, pow_more}
use Rattle.krb_job.specs.Decimal.{digit_of}
use Rattle.krb_job.proofs.DecimalLemmas.{digit_step, digit_stop, digits_end}
use Rattle.krb_job.proofs.decimal.digits_value.Goals as goal

pub returns-in_err-digit : goal.returns-in_err-digit
returns-in_err-digit c =
    let none : digit_of (get_or c.args.text.now c.loop-byte.byte-index 0) ≡ None = grind (arith, common_steps) in
    let stop = digit_stop c.args.text.now c.loop-byte.byte-index c.loop-byte.value (omega arith) none in
    let same = c.loop-byte.invariant.same in
    grind (arith, common_steps, stop, same)

pub loop-byte-preserved : goal.loop-byte-preserved
loop-byte-preserved c = record {
  same = let some : digit_of (get_or c.args.text.now c.loop-byte.byte-index 0) ≡ Some c.from.result = grind (arith, common_steps) in
      c.loop-byte.invariant.same ∙ digit_step c.args.text.now c.loop-byte.byte-index c.loop-byte.value c.from.result (omega arith) some;
  small = rw pow_more (omega (arith, c.in_ok-digit.ensures.bound));
}

pub returns : goal.returns
returns c = sym (c.loop-byte.invariant.same ∙ digits_end c.args.text.now c.loop-byte.byte-index c.loop-byte.value (omega arith))
