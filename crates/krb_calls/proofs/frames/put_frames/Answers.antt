use Rattle.std.proofs.Common.{◌≡◌, ◌+◌, ◌++◌, ◌<◌, ℕ, List, length, take, drop, get_or, subst, ◌∙◌, ap, arith}
use Rattle.std.specs.Global.{Vec}
use Rattle.krb_calls.proofs.PackedLemmas.{holds_all, holds_more, holds_none, room-more}
use Rattle.krb_calls.proofs.frames.put_frames.Goals as goal

pub loop-index-init : goal.loop-index-init
loop-index-init c = holds_none c.args.frames.now c.args.out.now c.args.sizes.now

pub put_at-requires : goal.put_at-requires
put_at-requires c =
    let all = c.args.frames.now in
    let i = c.loop-index.index in
    let d = c.index-frames-index.result in
    let more = room-more all i d c.loop-index-test.true in
    let size : length d.items ≡ length (get_or all i d).items = ap (λ (v : Vec ℕ). length v.items) c.index-frames-index.is in
    omega (arith, more, size, c.loop-index.invariant.place, c.deref.ensures.len, c.requires.room, c.loop-index.auto.out)

pub loop-index-preserved : goal.loop-index-preserved
loop-index-preserved c =
    let all = c.args.frames.now in
    let i = c.loop-index.index in
    let from = c.loop-index.from in
    let out = c.loop-index.out in
    let d = c.index-frames-index.result in
    let same : c.deref.result.now ≡ (get_or all i d).items = c.deref.ensures.value ∙ ap (λ (v : Vec ℕ). v.items) c.index-frames-index.is in
    let written : c.put_at.new.out ≡ take from out ++ ((get_or all i d).items ++ drop (from + length (get_or all i d).items) out) =
    subst (λ (b : List ℕ). c.put_at.new.out ≡ take from out ++ (b ++ drop (from + length b) out)) same c.put_at.ensures in
    let within : i < length c.loop-index.sizes = omega (arith, c.loop-index-test.true, c.requires.count, c.loop-index.auto.sizes) in
    let found : length d.items ≡ length (get_or all i d).items = ap (λ (v : Vec ℕ). length v.items) c.index-frames-index.is in
    let size : c.len-size.result ≡ length (get_or all i d).items = omega (arith, c.len-size.ensures, found) in
    holds_more all i from d c.args.out.now out c.put_at.new.out c.args.sizes.now c.loop-index.sizes c.len-size.result c.loop-index-test.true within
    c.loop-index.invariant size written

pub returns : goal.returns
returns c =
    holds_all c.args.frames.now c.loop-index.index c.loop-index.from c.args.out.now c.loop-index.out c.args.sizes.now c.loop-index.sizes
    (omega (arith, c.loop-index-test.false)) c.loop-index.invariant (omega (arith, c.loop-index.auto.index-end))
