use Rattle.std.proofs.Common.{◌-◌, ◌^◌, ◌<◌, ◌++◌, ◌∷◌, [], ℕ, List, length, subst, sym}
use Rattle.krb_engine.specs.declared.receiving.Receiving.{Receiving}
use Rattle.krb_engine.specs.Receiving as engine
use Rattle.krb_receiver.specs.Shard.{IsShard, ShardState}
use Rattle.krb_receiver.proofs.ShardLemmas.{shard_add}
use Rattle.krb_receiver.proofs.shard.Shard.add.Goals as goal

pub invariant_of-self-in_default : goal.invariant_of-self-in_default
invariant_of-self-in_default c =
    let few : length c.self.inside.sessions.items < 2 ^ 32 - 1 = subst (λ (l : ShardState). length l.sessions < 2 ^ 32 - 1) (sym c.self.view_is) c.requires.few in
    subst (λ (l : List Receiving). IsShard l c.add.new.self c.self.inside.taken.items c.self.inside.attempt c.self.inside.wait c.self.inside.clock) (sym {A = List Receiving} c.in_ok-push.ensures.items)
    (subst (λ (s : Receiving). IsShard (c.self.inside.sessions.items ++ s ∷ []) c.add.new.self c.self.inside.taken.items c.self.inside.attempt c.self.inside.wait c.self.inside.clock) (sym c.load.ensures)
    (subst (λ (l : List ℕ). IsShard (c.self.inside.sessions.items ++ engine.has_row c.args.row c.self.inside.clock ∷ []) l c.self.inside.taken.items c.self.inside.attempt c.self.inside.wait c.self.inside.clock) (sym c.in_default.ensures.ok)
    (shard_add c.self.inside.sessions.items c.self.inside.receipts c.self.inside.taken.items c.self.inside.attempt c.self.inside.wait c.self.inside.clock c.args.row c.self.invariant few)))
