-- `none` makes a handle of a null pointer and a count of 0, which owns nothing.
use mathlib.Core.Path.{refl}
use mathlib.Core.List.{[], ◌∷◌}
use Prim.Native.Nat.{ℕ}
use lib.Dec.{lit<}
use mir.Syntax.{Fn}
use mir.MapTy.{inst_fn}
use mir.Val.{Val}
use base.Logic.{SProp, id⊢}
use base.Fml.{ftrue, flft}
use contract.BorrowLft.{◌⊑◌}
use contract.Monad.{fact}
use contract.Running.{tables}
use types.Kit.{Item, ‵, raw, ◌⊛◌, ◌$◌, ◌∵◌, !, qed, move, drop, split, use0, use1, join, fjoin, feq_i, suffices, done}
use types.Part.{agg}
use types.Run.{lit, no_more, and_then, returns, enter}
use types.ByLocal.{alloc_all, pass_all, free_all, look_at, sets}
use denote.RattleType.{RattleType}
use denote.RawPtr.{null_ptr}
use denote.Steps.{nothing}
use denote.Triple.Walked.{says, walk_of, ends_at}
use Rattle.std.specs.Prelude.{None}
use Rattle.std.proofs.raw_atomic.Walks.{proved_at}
use Rattle.krb_c.proofs.Values.{held_val, held_own, held_made, held_typed}
use Rattle.krb_c.proofs.HeldBox.{args}
use Rattle.krb_c.specs.contracts.held.Held as Held
use Rattle.krb_c.specs.contracts.held.Held.none as F
use Rattle.krb_c.specs.contracts.held.Held.none.Key.{name as #self}
use Rattle.krb_c.proofs.held.Held.none.Statement.{statement}
use Rattle.krb_c.proofs.held.Held.none.Code as code

pub none_spec : {M : Type 1} → statement M
none_spec 𝓤 𝓛 𝓜 𝓡 wired X LX =
    let H = 𝓛.H in let 𝓣 = tables 𝓤 H 𝓜 𝓡 𝓡.env in let c = F.clauses X 𝓛 𝓜.mem 𝓡.returns in let fn : Fn = inst_fn (args X) code.function in
    let T = F.ended X in
    proved_at 𝓛 T tt c 𝓜 𝓡 tt (#self (args X)) fn (code.unfolded 𝓤 H 𝓜 𝓡 wired (X, tt)) (λ z are.
    let κs = z.0.0 in let qs = z.0.1 in let Post : Val → SProp 𝓤 = (walk_of 𝓛 T tt c).post z in let To : RattleType = Held.the_row X in
    let ts : Item 𝓤 = ‵ (flft κs.0 qs.0) ⊛ ‵ ftrue in let alive : Item 𝓤 = raw (fact 𝓤 (κs.0 ⊑ X.lives)) ⊛ ‵ ftrue in
    let u = held_val null_ptr 0 in let made : To.Denot = record { at = null_ptr; count = 0; value = None } in
    qed 𝓛 ((ts ⊛ ‵ ftrue) ∷ alive ∷ []) ∵ split ! $ move ! (1 ∷ []) $ drop ! $ move ! (1 ∷ []) $ drop ! $
    enter ! 𝓣.C 𝓣.Λ fn [] Post $ alloc_all ! (λ ls. pass_all ! refl tt $
    sets ! (agg ! (and_then ! (lit ! tt) (and_then ! (lit ! tt) (no_more !)))) refl (held_typed null_ptr 0 (lit< tt)) $ returns ! (look_at ! 0 refl) $ free_all ! refl $
    feq_i ! ℕ 0 0 refl $ use0 𝓛 (‵ (held_own null_ptr 0 (u ∷ []))) (held_made 𝓛 null_ptr 0 (lit< tt)) $ fjoin ! $ use1 𝓛 (‵ (To.own_val made (u ∷ []))) (id⊢ 𝓤 _) $
    suffices ! _ (ends_at 𝓛 T tt c z u made tt tt) $ says ! refl $
    nothing ! $ join ! $ move ! (1 ∷ 0 ∷ []) $ join ! $ done !))
