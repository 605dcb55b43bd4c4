-- One frame more, of bytes.
use Rattle.std.proofs.Common.{rules, ◌≡◌, ◌<◌, ◌++◌, ◌∷◌, [], length, take, get_or, sym, ap, ◌∙◌, arith}
use Rattle.std.proofs.lemmas.List.{map_push, map-append, take_more}
use Rattle.krb_peers.specs.Plan.{contents, emission, emissions}
use Rattle.krb_peers.proofs.ListLemmas.{AllBytes-push}
use Rattle.krb_peers.proofs.emission.emit_all.Goals as goal

pub loop-emission-preserved : goal.loop-emission-preserved
loop-emission-preserved c =
    let frames = contents c.args.frames.now in
    let plan = c.args.plan.now in
    let i = c.loop-emission.emission-index in
    let item = c.emission-item.result in
    let within : i < length plan = omega arith in
    let pushed : c.push.new.self.items ≡ c.loop-emission.emitted.items ++ c.in_ok-frame.frame ∷ [] = search rules in
    let one : c.in_ok-frame.frame.items ≡ emission frames item = c.in_ok-frame.ensures in
    record {
      emitted = rw (pushed, map-append, take_more plan i item within, c.loop-emission.invariant.emitted, one)
          (ap (λ e. emissions frames (take i plan) ++ emission frames e ∷ []) c.emission-item.is ∙ sym (map_push (emission frames) (take i plan) (get_or plan i item)));
      bytes = rw (pushed, map-append) (AllBytes-push _ _ c.loop-emission.invariant.bytes (rw c.as_slice.ensures.value at c.known_bytes.ensures));
    }
