-- One emission more.
use Rattle.std.proofs.Common.{◌<◌, length, take, get_or, subst, arith}
use Rattle.std.proofs.lemmas.List.{map_push, take_more}
use Rattle.krb_base.specs.Bytes.{AreBytes}
use Rattle.krb_record.specs.declared.plan.Emit.{Emit}
use Rattle.krb_peers.specs.Plan.{contents, emission}
use Rattle.krb_peers.proofs.ListLemmas.{AllBytes-push}
use Rattle.krb_peers.proofs.emission.known_emissions.Goals as goal

pub loop-emission-preserved : goal.loop-emission-preserved
loop-emission-preserved c = λ all.
    let frames = contents c.args.frames.now in
    let plan = c.args.plan.now in
    let i = c.loop-emission.emission-index in
    let item = c.emission-item.result in
    let within : i < length plan = omega arith in
    let P : Emit → Type 0 = λ e. AreBytes (emission frames e) in
    rw (take_more plan i item within, map_push (emission frames) (take i plan) (get_or plan i item))
    (AllBytes-push _ _ (c.loop-emission.invariant all) (subst P c.emission-item.is (c.known_emission.ensures all)))
