use Rattle.std.proofs.Common.{List, [], ◌∷◌, ◌++◌, sym, ap, subst, ◌∙◌}
use Rattle.std.specs.Global.{Vec}
use Rattle.std.specs.Prelude.{ℕ}
use Rattle.krb_bulk.specs.BulkInside.{SealsFirst}
use Rattle.krb_bulk.proofs.FirstLemmas.{four_more}
use Rattle.krb_bulk.proofs.bulk.Bulk.put_four.Goals as goal

pub returns-clause-first : goal.returns-clause-first
returns-clause-first c =
    let b = c.args.self.now in
    let four = c.args.four in
    let second = ap (λ (xs : List (Vec ℕ)). xs ++ four.b ∷ []) c.in_ok-push.ensures.items in
    let third = ap (λ (xs : List (Vec ℕ)). xs ++ four.c ∷ []) (c.in_ok-push-2.ensures.items ∙ second) in
    let fourth = ap (λ (xs : List (Vec ℕ)). xs ++ four.d ∷ []) (c.in_ok-push-3.ensures.items ∙ third) in
    subst (λ (xs : List (Vec ℕ)). SealsFirst b xs) (sym (c.in_ok-push-4.ensures.items ∙ fourth))
    (four_more b c.args.frames.now.items four c.args.frames.now.len c.args.frames.now.ok.0 c.requires.room c.requires.first c.requires.four)
