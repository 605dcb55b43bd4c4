-- `into_parts` moves the pointer, and what it owns goes with it.
use mathlib.Core.Path.{◌≡◌, refl}
use mathlib.Core.List.{List, [], ◌∷◌, ◌++◌}
use mir.Raw.{raw as bare}
use mir.Syntax.{Fn}
use mir.MapTy.{inst_fn}
use mir.Val.{Val}
use base.Logic.{SProp, never, fst∗, id⊢}
use base.Fml.{ftrue, fsep, flft}
use contract.BorrowLft.{◌⊑◌}
use prog.Wp.{WpFn}
use types.Logic.{sem}
use contract.Monad.{fact}
use contract.Running.{tables}
use types.Kit.{Item, ‵, raw, prop, ◌⊛◌, ◌$◌, ◌∵◌, !, qed, move, drop, use1, join, split, fsplit, fjoin, feq_l, regoal, rewrite, suffices, done}
use types.Part.{whole, sub, agg}
use types.Run.{stop, fld, no_more, and_then, of_opd, returns, enter}
use types.ByLocal.{alloc_all, pass_all, free_all, look_at, get, get_in, sets}
use denote.Exit.{yes, no}
use denote.Param.{param}
use denote.RattleType.{RattleType}
use denote.RawPtr.{Ptr, block_ptr, null_ptr, in_a_block}
use denote.Signature.{type_at}
use denote.Steps.{heard, nothing}
use denote.Triple.Walked.{says, Stays, stay_dropped, walk_of, ends_at, Goes-dropped}
use Rattle.std.specs.Prelude.{Option}
use Rattle.std.specs.Box.Ownership.{box_owns}
use Rattle.std.proofs.Common.{arith}
use Rattle.std.proofs.alloc.Calls.{token, handle_tells}
use Rattle.std.proofs.BoxSteps.Form.{Bx, D, R, τ, word, box_typed}
use Rattle.std.proofs.BoxSteps.Steps.{box_in}
use Rattle.std.proofs.raw_atomic.Walks.{proved_at}
use Rattle.krb_c.specs.Held.{owns}
use Rattle.krb_c.proofs.Values.{held_val, held_told, held_typed, by_option}
use Rattle.krb_c.proofs.HeldBox.{args, box_of, FromHeld, FromHeap}
use Rattle.krb_c.specs.contracts.held.Held as Held
use Rattle.krb_c.specs.contracts.held.Held.into_parts as F
use Rattle.krb_c.specs.contracts.held.Held.into_parts.Key.{name as #self}
use Rattle.krb_c.proofs.held.Held.into_parts.Statement.{statement}
use Rattle.krb_c.proofs.held.Held.into_parts.Code as code
use Rattle.std.specs.contracts.alloc.Global as Heap

abbrev stayed : (X : RattleType) → Stays (F.ended X).signature.params (F.ended X).kept
stayed X = (stay_dropped (FromHeld X) no, (stay_dropped FromHeap yes, tt))

pub into_parts_spec : {M : Type 1} → statement M
into_parts_spec 𝓤 𝓛 𝓜 𝓡 wired X LX =
    let H = 𝓛.H in let 𝓣 = tables 𝓤 H 𝓜 𝓡 𝓡.env in let c = F.clauses X 𝓛 𝓜.mem 𝓡.returns in let fn : Fn = inst_fn (args X) code.function in
    let T = F.ended X in let hs = stayed X in let E : Bx = box_of X LX in
    proved_at 𝓛 T hs c 𝓜 𝓡 (Goes-dropped 𝓛 1 (FromHeld X) no (λ κs x f. refl), (Goes-dropped 𝓛 1 FromHeap yes (λ κs x f. refl), tt)) (#self (args X)) fn (code.unfolded 𝓤 H 𝓜 𝓡 wired (X, tt)) (λ z are.
    let κs = z.0.0 in let qs = z.0.1 in let s = z.0.3.0 in let a = z.0.3.1.0 in let Post : Val → SProp 𝓤 = (walk_of 𝓛 T hs c).post z in
    let ts : Item 𝓤 = ‵ (flft κs.0 qs.0) ⊛ ‵ ftrue in let alive : Item 𝓤 = raw (fact 𝓤 (κs.0 ⊑ X.lives)) in
    let To = type_at (F.signature X).result κs in let Run : List Val → SProp 𝓤 = λ us. WpFn 𝓤 H 𝓣.C 𝓣.Λ fn us Post in
    let told = held_told s.at s.count z.0.4.0 are.0.0 in
    qed 𝓛 ((ts ⊛ ‵ (fsep ((Held.the_row (param 0 X)).own_val s z.0.4.0) (fsep ((Heap.the_row).own_val a z.0.4.1.0) ftrue))) ∷ (alive ⊛ raw (fact 𝓤 (s.count ≡ 1))) ∷ []) ∵
    split ! $ move ! (2 ∷ []) $ split ! $ drop ! $ heard ! (s.count ≡ 1) (λ one. move ! (1 ∷ []) $ fsplit ! $ fsplit ! $ drop ! $
    -- [what it owns; the heap with nothing; the tokens]
    by_option s.value
    (λ none. rewrite ! 0 (λ (o : Option X.Denot). ‵ (owns (param 0 X) s.at s.count o)) none refl $ feq_l ! (λ zero. let wrong : ⊥ = omega arith in absurd wrong))
    (λ x some. rewrite ! 0 (λ (o : Option X.Denot). ‵ (owns (param 0 X) s.at s.count o)) some refl $ fsplit ! $ feq_l ! (λ _.
    in_a_block ! s.at (λ p. box_owns (token E.al a) (R E) p x) (fst∗ 𝓤 (never 𝓤) (sem 𝓛 (token E.al a (bare (τ E)) null_ptr))) (λ b o at.
    move ! (1 ∷ []) $ fsplit ! $ handle_tells E.al ! a z.0.4.1.0 (λ hv ea fa. move ! (2 ∷ []) $ fsplit ! $
    let p = block_ptr b o in let w = word E hv b o in let v : D E = record { ptr = p; alloc = a; value = x } in let made : To.Denot = record { ptr = p; alloc = a; value = x } in
    box_in E ! v b o x refl refl $ use1 𝓛 (‵ (To.own_val made (w ∷ []))) (id⊢ 𝓤 _) $ move ! (1 ∷ []) $ drop ! $
    regoal ! (λ (us : List Val). prop (Run us)) (λ i. told.0 i ++ (ea i ++ [])) refl $ regoal ! (λ (q : Ptr). prop (Run (held_val q s.count ∷ hv ∷ []))) at refl $
    enter ! 𝓣.C 𝓣.Λ fn (held_val p s.count ∷ hv ∷ []) Post $ alloc_all ! (λ ls. pass_all ! refl (held_typed p s.count told.1, (fa, tt)) $
    sets ! (of_opd ! (get_in ! (fld ! refl (stop !)) (sub ! 0 refl (whole !)))) refl (tt, tt) $
    sets ! (agg ! (and_then ! (get ! refl) (and_then ! (get ! refl) (no_more !)))) refl (box_typed E hv b o fa) $ returns ! (look_at ! 0 refl) $ free_all ! refl $
    suffices ! _ (ends_at 𝓛 T hs c z w made (tt, (tt, tt)) (tt, (tt, tt))) $ says ! some $
    nothing ! $ nothing ! $ fjoin ! $ nothing ! $ fjoin ! $ join ! $ move ! (1 ∷ 0 ∷ []) $ join ! $ done !)))))))
