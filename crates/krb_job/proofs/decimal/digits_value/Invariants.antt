use Rattle.std.proofs.Common.{◌≡◌, ◌<◌, ◌^◌, drop}
use Rattle.krb_job.specs.Decimal.{digits_from}
use Rattle.krb_job.proofs.decimal.digits_value.Given as goal

abbrev pub invariant-loop-byte : goal.invariant-loop-byte
invariant-loop-byte l = record {
  same : digits_from 0 l.text ≡ digits_from l.value (drop l.byte-index l.text);
  small : l.value < 10 ^ l.byte-index;
}
