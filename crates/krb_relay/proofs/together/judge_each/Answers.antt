-- A lane more.
use Rattle.std.proofs.Common.{◌+◌, set, get_or, Option, refl, sym, subst, arith}
use Rattle.std.specs.Option.{ForSome}
use Rattle.krb_seal.specs.declared.coded.Coded.{Coded}
use Rattle.krb_relay.specs.declared.waiting.Waiting.{Waiting}
use Rattle.krb_relay.specs.Codes.{IsCodedFirst}
use Rattle.krb_relay.specs.Opening.{JudgesFirst}
use Rattle.krb_relay.proofs.TogetherLemmas.{JudgedBelow, judged_first, judged_next, code_left}
use Rattle.krb_relay.proofs.together.judge_each.Goals as goal

pub loop-lane-init : goal.loop-lane-init
loop-lane-init c = judged_first c.args.receivings.now c.args.waiting.now c.codes-coded.result _ c.codes-coded.ensures.size refl c.codes-coded.ensures.codes

pub judge_first-requires-clause-coded : goal.judge_first-requires-clause-coded
judge_first-requires-clause-coded c =
    let n = c.loop-lane.invariant.receivers in
    let left = code_left c.loop-lane.lane c.args.receivings.now c.args.waiting.now c.loop-lane.receivings c.loop-lane.coded c.loop-lane.verdicts c.index-receivings-lane.result c.index-waiting-lane.result
    c.index-coded-lane.result (omega (arith, n)) c.requires.few c.loop-lane.invariant in
    let P : Option Coded → Waiting → Type 0 = λ o w. ForSome o (IsCodedFirst (get_or c.loop-lane.receivings c.loop-lane.lane c.index-receivings-lane.result) w) in
    subst (λ o. P o c.index-waiting-lane.result) (sym c.take-code.ensures.value)
    (subst (λ w. P (get_or c.loop-lane.coded c.loop-lane.lane c.index-coded-lane.result) w) (sym c.index-waiting-lane.is) left)

pub loop-lane-preserved : goal.loop-lane-preserved
loop-lane-preserved c =
    let P : Option Coded → Type 0 =
    λ o. JudgedBelow (c.loop-lane.lane + 1) c.args.receivings.now c.args.waiting.now (set c.loop-lane.receivings c.loop-lane.lane c.judge_first.new.receiving) (set c.loop-lane.coded c.loop-lane.lane o)
    (set c.loop-lane.verdicts c.loop-lane.lane c.judge_first.result) in
    let Q : Waiting → Type 0 = λ w. JudgesFirst (get_or c.loop-lane.receivings c.loop-lane.lane c.index-receivings-lane.result) w c.judge_first.result c.judge_first.new.receiving in
    let n = c.loop-lane.invariant.receivers in
    subst P (sym c.take-code.ensures.after)
    (judged_next c.loop-lane.lane c.args.receivings.now c.args.waiting.now c.loop-lane.receivings c.loop-lane.coded c.loop-lane.verdicts c.index-receivings-lane.result c.judge_first.new.receiving
    c.index-waiting-lane.result c.judge_first.result c.requires.ready.same c.requires.few (omega (arith, n)) c.loop-lane.invariant (subst Q c.index-waiting-lane.is c.judge_first.ensures))
