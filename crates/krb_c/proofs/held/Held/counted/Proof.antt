-- `counted` reads a field.
use mathlib.Core.Path.{refl}
use mathlib.Core.List.{List, [], ◌∷◌, ◌++◌}
use Prim.Native.Nat.{◌^◌}
use mir.Syntax.{w64, ty_int}
use mir.Val.{Val, vint}
use mir.Syntax.{Fn}
use mir.MapTy.{inst_fn}
use base.Logic.{SProp, id⊢}
use base.Fml.{ftrue, fsep, flft}
use contract.BorrowLft.{◌⊑◌}
use contract.Monad.{fact}
use prog.Wp.{WpFn}
use contract.Running.{tables}
use types.Kit.{Item, ‵, raw, prop, ◌⊛◌, ◌$◌, ◌∵◌, !, qed, move, drop, use0, use1, use2, join, split, fsplit, fjoin, feq_i, flt_i, regoal, suffices, done}
use types.Part.{whole, sub, agg}
use types.Run.{stop, fld, of_opd, no_more, and_then, returns, enter}
use types.ByLocal.{alloc_all, pass_all, free_all, look_at, get, get_in, sets}
use denote.Builtin.{usize}
use denote.Exit.{no}
use denote.Param.{param}
use denote.RattleType.{RattleType}
use denote.Steps.{nothing}
use denote.Struct.Tuple.{Tuple}
use denote.Triple.Walked.{says, Stays, stay_dropped, walk_of, ends_at, Goes-dropped}
use Rattle.krb_c.proofs.Pairs.{pair_of, pair_val, pair_Typed}
use Rattle.std.proofs.raw_atomic.Walks.{proved_at}
use Rattle.krb_c.proofs.Values.{held_val, held_own, held_told, held_made, held_ty, held_typed, ptr_typed}
use Rattle.krb_c.proofs.HeldBox.{args, FromHeld}
use Rattle.krb_c.specs.contracts.held.Held as Held
use Rattle.krb_c.specs.contracts.held.Held.counted as F
use Rattle.krb_c.specs.contracts.held.Held.counted.Key.{name as #self}
use Rattle.krb_c.proofs.held.Held.counted.Statement.{statement}
use Rattle.krb_c.proofs.held.Held.counted.Code as code

abbrev stayed : (X : RattleType) → Stays (F.ended X).signature.params (F.ended X).kept
stayed X = (stay_dropped (FromHeld X) no, tt)

pub counted_spec : {M : Type 1} → statement M
counted_spec 𝓤 𝓛 𝓜 𝓡 wired X LX =
    let H = 𝓛.H in let 𝓣 = tables 𝓤 H 𝓜 𝓡 𝓡.env in let c = F.clauses X 𝓛 𝓜.mem 𝓡.returns in let fn : Fn = inst_fn (args X) code.function in
    let T = F.ended X in let hs = stayed X in
    proved_at 𝓛 T hs c 𝓜 𝓡 (Goes-dropped 𝓛 1 (FromHeld X) no (λ κs x f. refl), tt) (#self (args X)) fn (code.unfolded 𝓤 H 𝓜 𝓡 wired (X, tt)) (λ z are.
    let κs = z.0.0 in let qs = z.0.1 in let s = z.0.3.0 in let p = s.at in let n = s.count in let Post : Val → SProp 𝓤 = (walk_of 𝓛 T hs c).post z in
    let ts : Item 𝓤 = ‵ (flft κs.0 qs.0) ⊛ ‵ ftrue in let alive : Item 𝓤 = raw (fact 𝓤 (κs.0 ⊑ X.lives)) ⊛ ‵ ftrue in
    let Run : List Val → SProp 𝓤 = λ us. WpFn 𝓤 H 𝓣.C 𝓣.Λ fn us Post in let R : RattleType = Held.the_row (param 0 X) in let u = held_val p n in
    let told = held_told p n z.0.4.0 are.0.0 in let fits = told.1 in let typed = held_typed p n fits in
    qed 𝓛 ((ts ⊛ ‵ (fsep (R.own_val s z.0.4.0) ftrue)) ∷ alive ∷ []) ∵ split ! $ move ! (1 ∷ []) $ fsplit ! $ fsplit ! $ drop ! $ move ! (1 ∷ 3 ∷ []) $ drop ! $ drop ! $
    -- [what it owns beside its fields; the tokens]
    use0 𝓛 (‵ (held_own p n (u ∷ []))) (held_made 𝓛 p n fits) $ fjoin ! $ use1 𝓛 (‵ (R.own_val s (u ∷ []))) (id⊢ 𝓤 _) $
    regoal ! (λ (us : List Val). prop (Run us)) (λ i. told.0 i ++ []) refl $
    enter ! 𝓣.C 𝓣.Λ fn (u ∷ []) Post $ alloc_all ! (λ l. pass_all ! refl (typed, tt) $
    sets ! (of_opd ! (get_in ! (fld ! refl (stop !)) (sub ! 0 refl (whole !)))) refl (ptr_typed p) $
    sets ! (of_opd ! (get_in ! (fld ! refl (stop !)) (sub ! 1 refl (whole !)))) refl (tt, record { fits = fits }) $
    sets ! (agg ! (and_then ! (get ! refl) (and_then ! (get ! refl) (no_more !)))) refl typed $
    sets ! (agg ! (and_then ! (get ! refl) (and_then ! (get ! refl) (no_more !)))) refl (pair_Typed (ty_int w64) held_ty (vint w64 n) u (tt, record { fits = fits }) typed) $
    returns ! (look_at ! 0 refl) $ free_all ! refl $
    flt_i ! n (2 ^ 64) fits $ feq_i ! (List Val) (vint w64 n ∷ []) (vint w64 n ∷ []) refl $ fjoin ! $
    use2 𝓛 (‵ ((Tuple (usize ∷ R ∷ [])).own_val (n, s) (pair_val (vint w64 n) u ∷ []))) (pair_of 𝓛 usize R n s (vint w64 n) u) $
    suffices ! _ (ends_at 𝓛 T hs c z (pair_val (vint w64 n) u) (n, s) (tt, tt) (tt, tt)) $ says ! (refl, refl) $
    nothing ! $ nothing ! $ fjoin ! $ join ! $ move ! (1 ∷ 0 ∷ []) $ join ! $ done !))
