-- The answer of the receiver is the verdict.
use Rattle.std.proofs.Common.{rules}
use Rattle.krb_base.specs.Bytes.{AreBytes}
use Rattle.krb_relay.proofs.OpeningLemmas.{judged_delivery, judged_refusal}
use Rattle.krb_relay.proofs.opening.judge.Goals as goal

pub returns-in-Ok : goal.returns-in-Ok
returns-in-Ok c =
    let bytes : AreBytes c.args.frame.now = record { small = λ i. (c.type_inv.frame i).fits } in
    judged_delivery c.args.receiving.now c.args.place c.args.frame.now c.moment_at-now.result c.in-Ok.delivery c.take_coded.new.self bytes c.moment_at-now.ensures c.in-Ok.ensures.verdict c.in-Ok.ensures.after

pub returns-in-Err : goal.returns-in-Err
returns-in-Err c =
    let bytes : AreBytes c.args.frame.now = record { small = λ i. (c.type_inv.frame i).fits } in
    judged_refusal c.args.receiving.now c.args.place c.args.frame.now c.moment_at-now.result c.in-Err.refusal c.take_coded.new.self bytes c.moment_at-now.ensures c.in-Err.ensures.verdict c.in-Err.ensures.after (search rules)
