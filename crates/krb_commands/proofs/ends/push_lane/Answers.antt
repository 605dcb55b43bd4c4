use Rattle.std.proofs.Common.{◌≡◌, [], ◌∷◌, ◌++◌, false, arith, ap, ◌∙◌}
use Rattle.std.proofs.lemmas.Grind.{common_steps}
use Rattle.krb_job.specs.SenderView.{sender_view}
use Rattle.krb_commands.proofs.EndsLemmas.{ready_more, lane_more}
use Rattle.krb_commands.proofs.ends.push_lane.Goals as goal

pub returns-clause-ready : goal.returns-clause-ready
returns-clause-ready g c =
    let grown : c.push.new.self.items ≡ c.args.receivings.now.items ++ c.in_ok-receiving.receiving ∷ [] = grind (arith, common_steps) in
    let longer : c.push-2.new.self.items ≡ c.args.sendings.now.items ++ c.sending_of-sending.result ∷ [] = grind (arith, common_steps) in
    let live : (g.S.Sealer.state c.sending_of-sending.result.sealer).wiped ≡ false = ap (λ s. s.wiped) c.sending_of-sending.ensures.sealer ∙ c.requires.live in
    ready_more g.S.Sealer.state c.args.sendings.now.items c.push-2.new.self.items c.args.receivings.now.items c.push.new.self.items c.sending_of-sending.result c.in_ok-receiving.receiving
    c.requires.ready longer grown (c.sending_of-sending.ensures.limits c.requires.next) live c.in_ok-receiving.ensures.moments

pub returns-clause-lane : goal.returns-clause-lane
returns-clause-lane g c =
    let grown : c.push.new.self.items ≡ c.args.receivings.now.items ++ c.in_ok-receiving.receiving ∷ [] = grind (arith, common_steps) in
    let longer : c.push-2.new.self.items ≡ c.args.sendings.now.items ++ c.sending_of-sending.result ∷ [] = grind (arith, common_steps) in
    lane_more g.S.Sealer.state c.args.sendings.now.items c.push-2.new.self.items c.args.receivings.now.items c.push.new.self.items c.sending_of-sending.result c.in_ok-receiving.receiving (sender_view c.args.sender) (g.S.Sealer.state c.args.sealer)
    c.requires.ready.same longer grown c.sending_of-sending.ensures.source c.in_ok-receiving.ensures.receiver c.in_ok-receiving.ensures.nows
