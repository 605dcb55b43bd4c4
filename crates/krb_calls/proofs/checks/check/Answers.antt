use Rattle.krb_structs.specs.Fault.{fault_code}
use Rattle.krb_calls.proofs.TurnLemmas.{fails_read, sealable_read}
use Rattle.krb_calls.proofs.checks.check.Goals as goal

pub returns-in-Err : goal.returns-in-Err
returns-in-Err c =
    let kept = c.loop-index.invariant in
    fails_read c.args.sealer.now c.args.messages.now c.loop-index.index _ c.is_wiped-is_wiped.result c.loop-index.number (fault_code c.in-Err.fault)
    c.loop-index-test.true kept.1 kept.2 kept.3 kept.0 c.in-Err.ensures

pub loop-index-preserved : goal.loop-index-preserved
loop-index-preserved c =
    let kept = c.loop-index.invariant in
    sealable_read c.args.sealer.now c.args.messages.now c.loop-index.index _ c.is_wiped-is_wiped.result c.loop-index.number
    c.loop-index-test.true kept.1 kept.2 kept.0 c.in_default.ensures
