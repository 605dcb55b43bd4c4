use Rattle.std.proofs.Common.{◌<◌, ◌++◌, ◌∷◌, [], ℕ, List, length, subst, arith}
use Rattle.krb_receiver.proofs.ShardLemmas.{Settling, has_last, settling_step}
use Rattle.krb_receiver.proofs.shard.settle_all.Goals as goal

pub settle-requires-clause-there : goal.settle-requires-clause-there
settle-requires-clause-there c =
    let at : Settling c.args.is_stored c.args.sessions.now c.loop-place.sessions c.args.receipts.now c.loop-place.receipts (c.pop.new.self.items ++ c.in-Some.place ∷ []) =
    subst (λ (l : List ℕ). Settling c.args.is_stored c.args.sessions.now c.loop-place.sessions c.args.receipts.now c.loop-place.receipts l) c.in-Some.ensures.items c.loop-place.invariant in
    let there : c.in-Some.place < length c.args.sessions.now = at.places c.in-Some.place (has_last c.pop.new.self.items c.in-Some.place) in
    omega (arith, there, at.sized)

pub loop-place-preserved : goal.loop-place-preserved
loop-place-preserved c =
    let at : Settling c.args.is_stored c.args.sessions.now c.loop-place.sessions c.args.receipts.now c.loop-place.receipts (c.pop.new.self.items ++ c.in-Some.place ∷ []) =
    subst (λ (l : List ℕ). Settling c.args.is_stored c.args.sessions.now c.loop-place.sessions c.args.receipts.now c.loop-place.receipts l) c.in-Some.ensures.items c.loop-place.invariant in
    settling_step c.args.is_stored c.args.sessions.now c.loop-place.sessions c.settle.new.sessions c.args.receipts.now c.loop-place.receipts c.settle.new.receipts c.pop.new.self.items c.in-Some.place
    at c.settle.auto.sessions c.settle.ensures.sized c.settle.ensures.session c.settle.ensures.time c.settle.ensures.others c.settle.ensures.times
