-- `of_parts` moves the pointer, and what it owns goes with it.
use mathlib.Core.Path.{refl, sym, subst}
use mathlib.Core.List.{List, [], ◌∷◌, ◌++◌}
use Prim.Native.Nat.{ℕ}
use lib.Dec.{lit<}
use mir.Syntax.{Fn}
use mir.MapTy.{inst_fn}
use mir.Val.{Val}
use base.Logic.{SProp, ent, id⊢}
use base.Fml.{ftrue, fsep, flft}
use contract.BorrowLft.{◌⊑◌}
use contract.Monad.{fact}
use contract.Running.{tables}
use prog.Wp.{WpFn}
use types.Kit.{Item, ‵, raw, ◌⊛◌, ◌$◌, ◌∵◌, !, qed, by, move, drop, use0, use1, join, split, fsplit, fjoin, feq_i, suffices, done}
use types.Part.{whole, sub, agg}
use types.Run.{stop, fld, lit, no_more, and_then, of_opd, returns, enter}
use types.ByLocal.{alloc_all, pass_all, free_all, look_at, get, get_in, sets}
use denote.Exit.{no}
use denote.RattleType.{RattleType}
use denote.RawPtr.{block_ptr}
use denote.Signature.{type_at}
use denote.Steps.{nothing}
use denote.Triple.Walked.{says, Stays, stay_dropped, walk_of, ends_at, Goes-dropped}
use Rattle.std.specs.Prelude.{Some}
use Rattle.std.proofs.BoxSteps.Form.{Bx, D, B, word, box_typed}
use Rattle.std.proofs.BoxSteps.Steps.{box_out}
use Rattle.std.proofs.raw_atomic.Walks.{proved_at}
use Rattle.krb_c.proofs.Values.{held_val, held_own, held_made, held_typed}
use Rattle.krb_c.proofs.HeldBox.{args, box_of, FromParts}
use Rattle.krb_c.specs.contracts.held.Held.of_parts as F
use Rattle.krb_c.specs.contracts.held.Held.of_parts.Key.{name as #self}
use Rattle.krb_c.proofs.held.Held.of_parts.Statement.{statement}
use Rattle.krb_c.proofs.held.Held.of_parts.Code as code

abbrev stayed : (X : RattleType) → Stays (F.ended X).signature.params (F.ended X).kept
stayed X = (stay_dropped (FromParts X) no, tt)

pub of_parts_spec : {M : Type 1} → statement M
of_parts_spec 𝓤 𝓛 𝓜 𝓡 wired X LX =
    let H = 𝓛.H in let 𝓣 = tables 𝓤 H 𝓜 𝓡 𝓡.env in let c = F.clauses X 𝓛 𝓜.mem 𝓡.returns in let fn : Fn = inst_fn (args X) code.function in
    let T = F.ended X in let hs = stayed X in let E : Bx = box_of X LX in
    proved_at 𝓛 T hs c 𝓜 𝓡 (Goes-dropped 𝓛 1 (FromParts X) no (λ κs x f. refl), tt) (#self (args X)) fn (code.unfolded 𝓤 H 𝓜 𝓡 wired (X, tt)) (λ z are.
    let κs = z.0.0 in let qs = z.0.1 in let Post : Val → SProp 𝓤 = (walk_of 𝓛 T hs c).post z in let To = type_at (F.signature X).result κs in
    let ts : Item 𝓤 = ‵ (flft κs.0 qs.0) ⊛ ‵ ftrue in let alive : Item 𝓤 = raw (fact 𝓤 (κs.0 ⊑ X.lives)) ⊛ ‵ ftrue in
    let v : D E = record { ptr = z.0.3.0.ptr; alloc = z.0.3.0.alloc; value = z.0.3.0.value } in
    qed 𝓛 ((ts ⊛ ‵ (fsep ((B E).own_val v z.0.4.0) ftrue)) ∷ alive ∷ []) ∵ split ! $ move ! (1 ∷ []) $ fsplit ! $
    box_out E ! v z.0.4.0 (λ b o hv e ws fa.
    let p = block_ptr b o in let w = word E hv b o in let u = held_val p 1 in let made : To.Denot = record { at = p; count = 1; value = Some v.value } in
    -- [the value; the token; the handle of the heap; nothing; the tokens; alive]
    fjoin ! $ feq_i ! ℕ 1 1 refl $ fjoin ! $ use0 𝓛 (‵ (held_own p 1 (u ∷ []))) (held_made 𝓛 p 1 (lit< tt)) $ fjoin ! $ use1 𝓛 (‵ (To.own_val made (u ∷ []))) (id⊢ 𝓤 _) $
    move ! (1 ∷ 2 ∷ []) $ drop ! $ drop ! $
    let Γ : List (Item 𝓤) = ‵ (To.own_val made (u ∷ [])) ∷ ts ∷ alive ∷ [] in
    by ! (subst (λ (us : List Val). ent 𝓤 (types.Kit.⋆ 𝓛 Γ) (WpFn 𝓤 H 𝓣.C 𝓣.Λ fn (us ++ []) Post)) (sym ws)
    (qed 𝓛 Γ ∵ enter ! 𝓣.C 𝓣.Λ fn (w ∷ []) _ $ alloc_all ! (λ ls. pass_all ! refl (box_typed E hv b o fa, tt) $
    sets ! (of_opd ! (get_in ! (fld ! refl (stop !)) (sub ! 0 refl (whole !)))) refl (tt, tt) $
    sets ! (agg ! (and_then ! (get ! refl) (and_then ! (lit ! tt) (no_more !)))) refl (held_typed p 1 (lit< tt)) $ returns ! (look_at ! 0 refl) $ free_all ! refl $
    move ! (2 ∷ []) $ drop ! $
    suffices ! _ (ends_at 𝓛 T hs c z u made (tt, tt) (tt, tt)) $ says ! refl $
    nothing ! $ nothing ! $ fjoin ! $ join ! $ move ! (1 ∷ 0 ∷ []) $ join ! $ done !)))))
