-- The laws of prefixes.
use Rattle.std.proofs.Common.{List, [], ◌++◌, refl, sym, ap, ◌∙◌, append_assoc, append-nil}
use Rattle.krb_base.specs.Prefix.{IsPrefix}

pub prefix_whole : {X : Type 0} (front rest : List X) → IsPrefix front (front ++ rest)
prefix_whole front rest = (rest, refl)

pub prefix_same : {X : Type 0} (xs : List X) → IsPrefix xs xs
prefix_same xs = ([], sym (append-nil xs))

pub prefix_trans : {X : Type 0} (xs ys zs : List X) → IsPrefix xs ys → IsPrefix ys zs → IsPrefix xs zs
prefix_trans xs ys zs p q = (p.0 ++ q.0, q.1 ∙ ap (λ l. l ++ q.0) p.1 ∙ append_assoc xs p.0 q.0)
