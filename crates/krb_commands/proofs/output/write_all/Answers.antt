use Rattle.std.proofs.Common.{[], refl, rules}
use Rattle.std.specs.Io.KnownBytes.{Appends, Keeps}
use Rattle.std.proofs.KnownBytes.{Appends-nil}
use Rattle.krb_commands.proofs.OutputLemmas.{kept_by_none, wrote_more, wrote_part, wrote_all}
use Rattle.krb_commands.proofs.output.write_all.Goals as goal

pub loop-rest-init : goal.loop-rest-init
loop-rest-init g c = ([], Appends-nil _, refl)

pub loop-rest-preserved : goal.loop-rest-preserved
loop-rest-preserved g c =
    wrote_more _ _ _ c.loop-rest.invariant.0 c.loop-rest.rest.now c.args.bytes.now c.in-Ok.count c.loop-rest.invariant.1 c.loop-rest.invariant.2 c.in-Ok.ensures.bytes

pub returns-in-Err-clause-written : goal.returns-in-Err-clause-written
returns-in-Err-clause-written g c = tt

pub returns-in-Err-clause-part : goal.returns-in-Err-clause-part
returns-in-Err-clause-part g c =
    let then = g.W.Write.contents c.loop-rest.writer in
    let kept : Keeps then (g.W.Write.contents c.write.new.self) = search rules in
    wrote_part _ then _ c.loop-rest.invariant.0 c.loop-rest.rest.now c.args.bytes.now c.loop-rest.invariant.1 c.loop-rest.invariant.2 c.loop-rest-test.ensures kept

pub returns-in-Err-clause-fault : goal.returns-in-Err-clause-fault
returns-in-Err-clause-fault g c = refl

-- the writer took 0 bytes
pub returns-in-Err-2-clause-written : goal.returns-in-Err-2-clause-written
returns-in-Err-2-clause-written g c = tt

pub returns-in-Err-2-clause-part : goal.returns-in-Err-2-clause-part
returns-in-Err-2-clause-part g c =
    let then = g.W.Write.contents c.loop-rest.writer in
    let none : Appends then (g.W.Write.contents c.write.new.self) [] = search rules in
    wrote_part _ then _ c.loop-rest.invariant.0 c.loop-rest.rest.now c.args.bytes.now c.loop-rest.invariant.1 c.loop-rest.invariant.2 c.loop-rest-test.ensures (kept_by_none _ _ none)

pub returns-in-Err-2-clause-fault : goal.returns-in-Err-2-clause-fault
returns-in-Err-2-clause-fault g c = refl

pub returns-clause-written : goal.returns-clause-written
returns-clause-written g c =
    wrote_all _ _ c.loop-rest.invariant.0 c.loop-rest.rest.now c.args.bytes.now c.loop-rest.invariant.1 c.loop-rest.invariant.2 c.loop-rest-test.ensures

pub returns-clause-part : goal.returns-clause-part
returns-clause-part g c = tt

pub returns-clause-fault : goal.returns-clause-fault
returns-clause-fault g c = tt
