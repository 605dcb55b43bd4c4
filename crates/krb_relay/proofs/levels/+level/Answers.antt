-- A level around the levels inside.
use Rattle.std.proofs.Common.{◌≡◌, ◌∷◌, [], List, length, drop, replicate, ap, refl, sym, subst, ◌∙◌, arith, inl, None}
use Rattle.std.specs.Prelude.{All}
use Rattle.std.proofs.lemmas.List.{nil_from_length, length_push, take_at}
use Rattle.krb_lane.specs.Side.{Side}
use Rattle.krb_relay.specs.Gathering.{Finished}
use Rattle.krb_relay.proofs.GatheringLemmas.{set_on, all_front, all_last, begun_fresh, begun_ends, gathers_none, gathers_leave, gathers_fault, least_here, least_later}
use Rattle.krb_relay.proofs.levels.+level.Goals as goal

pub returns-in_default : goal.returns-in_default
returns-in_default g t c =
    let empty : c.args.parts.items ≡ [] = nil_from_length c.args.parts.items (sym c.args.parts.ok.0 ∙ c.in_default.ensures.cases.0) in
    let P : List Side → Type 0 = λ x. Finished c.args.receivings.items x c.finish-own.new.ends c.finish-own.new.log c.finish-own.result in
    let len : length c.finish-own.new.ends ≡ c.args.ends.len = omega arith in
    rw (take_at c.finish-own.new.ends (drop (length c.finish-own.new.ends) c.args.ends.items) c.args.ends.len len)
    (gathers_none {S = g.row.S.Denot} (g.W.Work.gives c.args.work.now) c.args.parts.items c.args.receivings.items c.args.ends.items c.finish-own.new.ends c.finish-own.new.log (replicate 8 0) c.finish-own.result None refl refl (λ none. empty) (λ stop is. inl empty)
    (subst P c.as_mut_slice.ensures.value c.finish-own.ensures.finished))

pub begin-requires-clause-callable : goal.begin-requires-clause-callable
begin-requires-clause-callable g t c κs within =
    let P : g.row.S.Denot → Type 0 = λ part. (tx : Side) → tx.frames ≡ [] → g.W.Work.can_run c.args.work.now part tx in
    let Q : List g.row.S.Denot → Type 0 = λ x. All P x in
    all_last P c.pop.new.self.items c.in-Some.part (subst Q c.in-Some.ensures.items c.requires.callable)

pub level-inner-requires-clause-callable : goal.level-inner-requires-clause-callable
level-inner-requires-clause-callable g t c κs within =
    let P : g.row.S.Denot → Type 0 = λ part. (tx : Side) → tx.frames ≡ [] → g.W.Work.can_run c.args.work.now part tx in
    let Q : List g.row.S.Denot → Type 0 = λ x. All P x in
    all_front P c.pop.new.self.items (c.in-Some.part ∷ []) (subst Q c.in-Some.ensures.items c.requires.callable)

pub level-inner-requires-clause-fresh : goal.level-inner-requires-clause-fresh
level-inner-requires-clause-fresh g t c κs within = begun_fresh _ _ _ c.in-Ok.ensures.lane c.requires.fresh

pub leave-ended-requires-clause-last : goal.leave-ended-requires-clause-last
leave-ended-requires-clause-last g t c κs within =
    begun_ends {S = g.row.S.Denot} (g.W.Work.gives c.args.work.now) c.pop.new.self.items c.args.receivings.items c.args.ends.items _ _ _ _ _ _ _ c.in-Ok.ensures.lane c.level-inner.ensures

pub returns-in-Err : goal.returns-in-Err
returns-in-Err g t c =
    let Q : List Side → Type 0 = λ x. Finished c.args.receivings.items x c.give_up-own.new.ends c.args.log c.give_up-own.result in
    let len : length c.give_up-own.new.ends ≡ c.begin.new.ends.len = omega arith in
    rw (take_at c.give_up-own.new.ends (drop (length c.give_up-own.new.ends) c.begin.new.ends.items) c.begin.new.ends.len len)
    (gathers_fault {S = g.row.S.Denot} (g.W.Work.gives c.args.work.now) c.args.parts.items c.args.receivings.items c.args.ends.items c.begin.new.ends.items c.give_up-own.new.ends c.args.log (replicate 8 0) c.give_up-own.result _ refl c.in-Err.ensures.err c.give_up-own.ensures.fault (omega arith)
    (subst Q c.as_mut_slice-in-Err.ensures.value c.give_up-own.ensures.finished))

pub returns-in-Some-cause : goal.returns-in-Some-cause
returns-in-Some-cause g t c =
    gathers_leave {S = g.row.S.Denot} {W = g.row.W.Denot} g.W.Work.gives c.args.work.now c.in-Ok.worker.promise.work.value c.args.parts.items c.pop.new.self.items c.in-Some.part c.in-Ok.worker.promise.part.value c.args.receivings.items c.args.ends.items c.begin.new.ends.items c.level-inner.result.ends.items c.leave-ended.new.ends.items c.in-Ok.worker.promise.tx.value c.level-inner.result.log c.level-inner.result.sealed _ c.level-inner.result.own c.level-inner.result.fault _ c.leave-ended.result.sealed c.leave-ended.result.cause (set_on c.level-inner.result.sealed _ _ _ (omega arith)) (let long = c.level-inner.ensures.long in let one = ap length c.in-Some.ensures.items ∙ length_push c.pop.new.self.items c.in-Some.part in omega (arith, long, one))
    (λ handed inner got is named. least_here _ _ c.in-Some.part c.in-Ok.worker.promise.tx.value handed got inner c.in-Some-cause.cause (omega arith) (sym c.in-Some-cause.is ∙ is))
    c.in-Ok.ensures.worker.0 c.in-Ok.ensures.worker.1 c.in-Some.ensures.items c.in-Ok.ensures.lane c.leave-ended.ensures c.level-inner.ensures

pub returns-in_default-cause : goal.returns-in_default-cause
returns-in_default-cause g t c =
    gathers_leave {S = g.row.S.Denot} {W = g.row.W.Denot} g.W.Work.gives c.args.work.now c.in-Ok.worker.promise.work.value c.args.parts.items c.pop.new.self.items c.in-Some.part c.in-Ok.worker.promise.part.value c.args.receivings.items c.args.ends.items c.begin.new.ends.items c.level-inner.result.ends.items c.leave-ended.new.ends.items c.in-Ok.worker.promise.tx.value c.level-inner.result.log c.level-inner.result.sealed _ c.level-inner.result.own c.level-inner.result.fault c.level-inner.result.fault c.leave-ended.result.sealed c.leave-ended.result.cause (set_on c.level-inner.result.sealed _ _ _ (omega arith)) (let long = c.level-inner.ensures.long in let one = ap length c.in-Some.ensures.items ∙ length_push c.pop.new.self.items c.in-Some.part in omega (arith, long, one))
    (λ handed inner got is named. least_later _ c.in-Some.part c.in-Ok.worker.promise.tx.value handed got inner _ _ c.in_default-cause.is is named)
    c.in-Ok.ensures.worker.0 c.in-Ok.ensures.worker.1 c.in-Some.ensures.items c.in-Ok.ensures.lane c.leave-ended.ensures c.level-inner.ensures
