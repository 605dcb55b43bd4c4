-- Lane by lane.
use Rattle.std.proofs.Common.{rules, ◌≡◌, ◌+◌, ◌-◌, ◌<◌, ◌∷◌, length, subst, ◌∙◌}
use Rattle.krb_core.specs.declared.turn.Turn.TheVariants.{Take}
use Rattle.krb_core.specs.Stepped.{Relay}
use Rattle.krb_core.specs.Finish.{round_turns}
use Rattle.krb_core.proofs.TurnLemmas.{served_send, served_one, served_part}
use Rattle.krb_core.proofs.stepped.Stepped.round.Goals as goal

pub returns-in_err-step-2-clause-turns : goal.returns-in_err-step-2-clause-turns
returns-in_err-step-2-clause-turns c =
    let n = length c.args.self.now.tracks in
    let lane = c.loop-lane.lane in
    let many : n ≡ c.args.self.now.log.lanes = (let P : Relay → Type 0 = λ r. length r.tracks ≡ r.log.lanes in subst P c.self.view_is c.self.invariant.lanes) in
    let lt : lane < n = search rules in
    let sent = served_send n lane c.args.self.now c.loop-lane.self c.step.new.self lt c.loop-lane.invariant.served c.in_ok-step.ensures.ok in
    let part = served_part (round_turns 0 n) (Take lane ∷ round_turns (lane + 1) (n - (lane + 1))) c.args.self.now c.step.new.self sent in
    (part.0, part.1, c.in_err-step-2.ensures.err ∙ part.2)

pub loop-lane-preserved : goal.loop-lane-preserved
loop-lane-preserved c =
    let n = length c.args.self.now.tracks in
    let lane = c.loop-lane.lane in
    let many : n ≡ c.args.self.now.log.lanes = (let P : Relay → Type 0 = λ r. length r.tracks ≡ r.log.lanes in subst P c.self.view_is c.self.invariant.lanes) in
    let lt : lane < n = search rules in
    let sent = served_send n lane c.args.self.now c.loop-lane.self c.step.new.self lt c.loop-lane.invariant.served c.in_ok-step.ensures.ok in
    record {
      count = c.step-in-loop-lane.ensures.lanes ∙ (c.step.ensures.lanes ∙ c.loop-lane.invariant.count);
      served = served_one (round_turns 0 n) (round_turns (lane + 1) (n - (lane + 1))) (Take lane) c.args.self.now c.step.new.self c.step-in-loop-lane.new.self sent c.in_ok-step-2.ensures.ok;
    }
