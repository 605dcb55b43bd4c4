-- One turn more.
use Rattle.std.proofs.Common.{rules, ◌≡◌, ◌<◌, length, take, ◌∙◌, arith}
use Rattle.krb_core.specs.Stepped.{after}
use Rattle.krb_core.proofs.SteppedLemmas.{after_more, count_more, stops_at, on_err}
use Rattle.krb_core.proofs.RelayedClaims.{goes_on, keeps_headline}
use Rattle.krb_core.proofs.stepped.Stepped.run.Goals as goal

pub loop-turn-preserved : goal.loop-turn-preserved
loop-turn-preserved c =
    let lt : c.loop-turn.turn-index < length c.args.turns.now = omega arith in
    record {
      count = count_more c.args.self.now c.loop-turn.self c.step.new.self c.args.turns.now c.loop-turn.turn-index _ c.loop-turn.invariant.count c.in_ok-step.ensures.ok;
      relay = after_more c.args.self.now c.loop-turn.self c.step.new.self c.args.turns.now c.loop-turn.turn-index _ lt c.loop-turn.invariant.relay c.in_ok-step.ensures.ok;
    }

pub returns-in_err-step-clause-after : goal.returns-in_err-step-clause-after
returns-in_err-step-clause-after c =
    let lt : c.loop-turn.turn-index < length c.args.turns.now = omega arith in
    let is : c.step.new.self ≡ after c.args.self.now (take c.loop-turn.turn-index c.args.turns.now) = c.in_err-step.ensures.err ∙ c.loop-turn.invariant.relay in (
      c.loop-turn.turn-index,
      is,
      search rules,
      on_err _ c.from_residual.result (stops_at c.loop-turn.self c.step.new.self c.args.turns.now c.loop-turn.turn-index _ lt c.in_err-step.ensures.err c.in_err-step.ensures.memory),
    )

pub returns-clause-after : goal.returns-clause-after
returns-clause-after c = (c.loop-turn.turn-index, c.loop-turn.invariant.relay, omega arith, tt)

pub returns-in_err-step-clause-turned : goal.returns-in_err-step-clause-turned
returns-in_err-step-clause-turned c =
    let is : c.step.new.self ≡ after c.args.self.now (take c.loop-turn.turn-index c.args.turns.now) = c.in_err-step.ensures.err ∙ c.loop-turn.invariant.relay in
    (c.loop-turn.turn-index, goes_on c.args.self.now c.step.new.self (take c.loop-turn.turn-index c.args.turns.now) is, search rules)

pub returns-in_err-step-clause-headline : goal.returns-in_err-step-clause-headline
returns-in_err-step-clause-headline c =
    let is : c.step.new.self ≡ after c.args.self.now (take c.loop-turn.turn-index c.args.turns.now) = c.in_err-step.ensures.err ∙ c.loop-turn.invariant.relay in
    keeps_headline c.args.self.now c.step.new.self (take c.loop-turn.turn-index c.args.turns.now) is

pub returns-clause-turned : goal.returns-clause-turned
returns-clause-turned c =
    (c.loop-turn.turn-index, goes_on c.args.self.now c.loop-turn.self (take c.loop-turn.turn-index c.args.turns.now) c.loop-turn.invariant.relay, omega arith)

pub returns-clause-headline : goal.returns-clause-headline
returns-clause-headline c = keeps_headline c.args.self.now c.loop-turn.self (take c.loop-turn.turn-index c.args.turns.now) c.loop-turn.invariant.relay
