use Rattle.std.proofs.Common.{◌≡◌, ◌<◌, ℕ, List, Option, true, is_some, length, set, subst, sym}
use Rattle.krb_engine.specs.Receiving as engine
use Rattle.krb_engine.specs.declared.receiving.Receiving.{Receiving}
use Rattle.krb_receiver.specs.declared.shard.Attempt.{Attempt}
use Rattle.krb_receiver.specs.Shard.{IsShard, ShardState, taken_with}
use Rattle.krb_receiver.proofs.ShardLemmas.{take_shard}
use Rattle.krb_receiver.proofs.shard.Shard.take.Goals as goal

pub invariant_of-self-2 : goal.invariant_of-self-2
invariant_of-self-2 c =
    let there : c.args.place < length c.self.inside.sessions.items = subst (λ (l : ShardState). c.args.place < length l.sessions) (sym c.self.view_is) c.requires.there in
    let begun : is_some c.self.inside.attempt ≡ true = subst (λ (l : ShardState). is_some l.attempt ≡ true) (sym c.self.view_is) c.requires.begun in
    let old : Receiving = c.index_mut-session.result.now in
    subst (λ (s : Receiving). IsShard (set c.self.inside.sessions.items c.args.place s) c.self.inside.receipts c.list.new.taken.items c.with_last-self-inside.result c.self.inside.wait c.self.inside.clock) (sym c.take-outcome.ensures.state)
    (subst (λ (l : List ℕ). IsShard (set c.self.inside.sessions.items c.args.place (engine.took old c.args.frame.now c.args.seen)) c.self.inside.receipts l c.with_last-self-inside.result c.self.inside.wait c.self.inside.clock) (sym c.in_ok-list.ensures.ok)
    (subst (λ (a : Option Attempt). IsShard (set c.self.inside.sessions.items c.args.place (engine.took old c.args.frame.now c.args.seen)) c.self.inside.receipts (taken_with c.self.inside.taken.items c.args.place old.is_open) a c.self.inside.wait c.self.inside.clock) (sym c.with_last-self-inside.ensures)
    (take_shard c.self.inside.sessions.items c.self.inside.receipts c.self.inside.taken.items c.self.inside.attempt c.self.inside.wait c.self.inside.clock c.args.place c.args.offset old c.args.frame.now c.args.seen
    c.self.invariant there c.index_mut-session.ensures.value begun)))
