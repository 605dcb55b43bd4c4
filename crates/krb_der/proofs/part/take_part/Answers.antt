use Rattle.std.proofs.Common.{◌++◌, ◌∙◌, List, ℕ, Some, sym, ap, subst, drop, length}
use Rattle.std.proofs.lemmas.List.{take_rest}
use Rattle.krb_der.specs.Reading.{EndsWith, part_of, body_with}
use Rattle.krb_der.proofs.Places.{data-place, ends-dropped}
use Rattle.krb_der.proofs.part.take_part.Goals as goal

pub returns : goal.returns
returns c =
    let spelt = take_rest c.as_slice.result.now c.args.start ∙ ap (drop c.args.start) c.as_slice.ensures in
    let place = ends-dropped c.args.start (c.in-Some.data.now ++ c.in-Some.following.now) c.args.bytes (subst (EndsWith (c.in-Some.data.now ++ c.in-Some.following.now)) spelt c.in-Some.ensures.place) in
    let size = ap length c.as_slice-2.ensures in
    let cut = rw c.into_bytes.ensures at c.cut-data.ensures.part in
    let moved = cut ∙ data-place c.args.bytes c.in-Some.data.now c.in-Some.following.now _ size place in
    ap part_of (sym spelt) ∙ c.in-Some.ensures.fields ∙ c.in-Some-read_after.ensures.found
    ∙ ap Some (c.in_ok-details.ensures ∙ ap (λ (z : List ℕ). body_with z c.in_ok-details.details) (c.in-Some-read_after.ensures.data ∙ sym moved) ∙ sym c.with.ensures)
