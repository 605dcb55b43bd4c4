-- `of` moves the fields, and what they own goes with them.
use mathlib.Core.Path.{refl}
use mathlib.Core.List.{List, [], ◌∷◌, ◌++◌}
use mir.Val.{Val}
use base.Logic.{SProp, emp, id⊢}
use base.Fml.{ftrue, fsep}
use prog.Wp.{WpFn}
use contract.Running.{tables}
use types.Kit.{‵, raw, prop, ◌⊛◌, ◌$◌, ◌∵◌, !, qed, move, drop, use0, use1, join, split, fsplit, fjoin, regoal, suffices, done}
use types.Part.{whole, sub, agg}
use types.Run.{stop, fld, of_opd, no_more, and_then, returns, enter}
use types.ByLocal.{alloc_all, pass_all, free_all, look_at, get, get_in, sets}
use denote.Exit.{yes}
use denote.RattleType.{RattleType}
use denote.Signature.{plain, type_at}
use denote.Steps.{nothing}
use denote.Triple.Walked.{says, Stays, stay_dropped, walk_of, ends_at, Goes-dropped}
use Rattle.std.proofs.raw_atomic.Walks.{proved_at}
use Rattle.krb_c.proofs.Values.{held_val, held_own, held_told, held_made, held_typed, ptr_typed}
use Rattle.krb_c.specs.contracts.held_shard.HeldShard as Any
use Rattle.krb_c.specs.contracts.held.Held as Held
use Rattle.krb_c.specs.contracts.shard_handle.KrbShardHandle.of as F
use Rattle.krb_c.specs.contracts.shard_handle.KrbShardHandle.of.Key.{name as #self}
use Rattle.krb_c.proofs.shard_handle.KrbShardHandle.of.Statement.{statement}
use Rattle.krb_c.proofs.shard_handle.KrbShardHandle.of.Code as code

abbrev From : RattleType
From = Held.the_row Any.the_row

abbrev stayed : Stays (F.ended).signature.params (F.ended).kept
stayed = (stay_dropped (plain (λ _. From)) yes, tt)

pub of_spec : {M : Type 1} → statement M
of_spec 𝓤 𝓛 𝓜 𝓡 wired =
    let H = 𝓛.H in let 𝓣 = tables 𝓤 H 𝓜 𝓡 𝓡.env in let c = F.clauses 𝓛 𝓜.mem 𝓡.returns in let fn = code.function in
    proved_at 𝓛 F.ended stayed c 𝓜 𝓡 (Goes-dropped 𝓛 0 (plain (λ _. From)) yes (λ κs x f. refl), tt) #self fn (code.unfolded 𝓤 H 𝓜 𝓡 wired) (λ z are.
    let s = z.0.3.0 in let p = s.at in let n = s.count in let Post : Val → SProp 𝓤 = (walk_of 𝓛 F.ended stayed c).post z in
    let Run : List Val → SProp 𝓤 = λ us. WpFn 𝓤 H 𝓣.C 𝓣.Λ fn us Post in let u = held_val p n in
    let To = type_at (F.signature).result tt in let made : To.Denot = record { at = p; count = n; shard = s.value } in
    let told = held_told p n z.0.4.0 are.0.0 in let fits = told.1 in let typed = held_typed p n fits in
    qed 𝓛 ((‵ ftrue ⊛ ‵ (fsep (From.own_val s z.0.4.0) ftrue)) ∷ raw (emp 𝓤) ∷ []) ∵ split ! $ drop ! $ fsplit ! $ fsplit ! $ drop ! $ move ! (1 ∷ 2 ∷ []) $ drop ! $ drop ! $
    -- [what the handle owns beside its fields]
    use0 𝓛 (‵ (held_own p n (u ∷ []))) (held_made 𝓛 p n fits) $ fjoin ! $ use1 𝓛 (‵ (To.own_val made (u ∷ []))) (id⊢ 𝓤 _) $
    regoal ! (λ (us : List Val). prop (Run us)) (λ i. told.0 i ++ []) refl $
    enter ! 𝓣.C 𝓣.Λ fn (u ∷ []) Post $ alloc_all ! (λ l. pass_all ! refl (typed, tt) $
    sets ! (of_opd ! (get_in ! (fld ! refl (stop !)) (sub ! 0 refl (whole !)))) refl (ptr_typed p) $
    sets ! (of_opd ! (get_in ! (fld ! refl (stop !)) (sub ! 1 refl (whole !)))) refl (tt, record { fits = fits }) $
    sets ! (of_opd ! (get ! refl)) refl (ptr_typed p) $
    sets ! (agg ! (and_then ! (get ! refl) (and_then ! (get ! refl) (no_more !)))) refl typed $
    returns ! (look_at ! 0 refl) $ free_all ! refl $
    suffices ! _ (ends_at 𝓛 F.ended stayed c z u made (tt, tt) (tt, tt)) $ says ! refl $
    nothing ! $ nothing ! $ fjoin ! $ join ! $ nothing ! $ join ! $ done !))
