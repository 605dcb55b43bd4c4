use Rattle.std.proofs.Common.{◌≡◌, true, false, take, Result, Ok, Err, OnOk, refl, sym, ap, subst, ◌∙◌, arith}
use Rattle.std.specs.Result.{is_err}
use Rattle.krb_peers.specs.LogState.{LogState}
use Rattle.krb_commands.specs.Opened.{HoldsFrames}
use Rattle.krb_peers.specs.Moments.{moment_at}
use Rattle.krb_commands.proofs.OpenedLemmas.{opened_none, opened_shut, opened_next}
use Rattle.krb_commands.proofs.opening.take_all.Goals as goal

pub loop-place-init : goal.loop-place-init
loop-place-init c = (opened_none _ _ _ c.requires.log, refl)

pub take_into-requires-clause-shut : goal.take_into-requires-clause-shut
take_into-requires-clause-shut c = opened_shut _ _ _ _ _ c.loop-place.invariant.0

pub loop-place-preserved : goal.loop-place-preserved
loop-place-preserved c =
    let next = rw (c.as_slice.ensures) at c.in_ok-take_into.ensures.logged in
    let noted = rw (c.as_slice.ensures) at c.in_ok-take_into.ensures.log in
    let at = c.moment_at-now.ensures ∙ ap (λ v. moment_at v.items c.loop-place.place) c.loop-place.invariant.1 in (
      opened_next _ _ c.args.frames.now c.loop-place.place _ _ c.loop-place.invariant.0 c.index-frames-place.result c.moment_at-now.result _ _
          c.loop-place-test.true c.index-frames-place.is at next noted,
      c.loop-place.invariant.1,
    )

pub returns : goal.returns
returns c = (c.loop-place.place, (c.loop-place.invariant.0).holds, omega arith)

ok_by_none : {T E : Type 0} (Q : Type 0) (r : Result T E) → is_err r ≡ true → OnOk r Q
ok_by_none Q (Ok x) h = absurd (let e : false ≡ true = h in cc)
ok_by_none Q (Err e) h = tt

-- nothing more was taken
pub returns-in_err-take_into : goal.returns-in_err-take_into
returns-in_err-take_into c =
    let P : LogState → Type 0 = λ l. HoldsFrames c.args.receiving.receiver c.args.receiving.nows.items (take c.loop-place.place c.args.frames.now) l in
    (c.loop-place.place, subst P (sym c.in_err-take_into.ensures.unwritten) (c.loop-place.invariant.0).holds, ok_by_none _ c.from_residual.result c.from_residual.ensures.0)
