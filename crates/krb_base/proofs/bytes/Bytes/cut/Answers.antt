use Rattle.std.proofs.Common.{◌≡◌, ◌-◌, ◌+◌, ℕ, ap, arith, drop, sym, take, ◌∙◌}
use Rattle.std.proofs.lemmas.List.{drop-drop, drop-take}
use Rattle.krb_base.proofs.bytes.Bytes.cut.Goals as goal

pub returns : goal.returns
returns c =
    let front = c.into_parts-vec.result.1 in let items = c.into_parts-vec.result.0.items in
    let start = c.args.start in let size = c.args.end - c.args.start in
    let whole : front + c.args.end ≡ front + start + size = omega arith in
    record {
      part =
          ap (drop (front + start)) (c.truncate.ensures.items ∙ ap (λ (n : ℕ). take n items) whole)
          ∙ drop-take (front + start) size items
          ∙ ap (take size) (sym (drop-drop start front items) ∙ ap (drop start) c.into_parts-vec.ensures.bytes);
    }
