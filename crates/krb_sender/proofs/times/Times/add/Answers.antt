use Rattle.std.proofs.Common.{List, ℕ, ◌<◌, ◌^◌, length, ◌++◌, ◌∷◌, [], subst, sym}
use Rattle.krb_sender.specs.Times.{IsTree, never}
use Rattle.krb_sender.proofs.TimesLemmas.{tree_add}
use Rattle.krb_sender.proofs.times.Times.add.Goals as goal

pub invariant_of-self-in_default : goal.invariant_of-self-in_default
invariant_of-self-in_default c =
    subst (λ (l : List ℕ). IsTree l c.push.new.self.items) (sym c.in_default.ensures.items)
    (subst (λ (l : List ℕ). IsTree (c.self.inside.at.items ++ never ∷ []) l) (sym c.in_ok-push.ensures.items)
    (tree_add c.self.inside.at.items c.self.inside.least.items (subst (λ (l : List ℕ). length l < 2 ^ 32) (sym c.self.view_is) c.requires) c.self.invariant))
