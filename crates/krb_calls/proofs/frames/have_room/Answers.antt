use Rattle.std.proofs.Common.{◌≡◌, ℕ, length, get_or, ap, arith}
use Rattle.std.specs.Global.{Vec}
use Rattle.krb_calls.proofs.PackedLemmas.{length-more, room-more}
use Rattle.krb_calls.proofs.frames.have_room.Goals as goal

pub returns-then-len-left : goal.returns-then-len-left
returns-then-len-left c =
    let all = c.args.frames.now in
    let i = c.loop-frame.frame-index in
    let d = c.frame-item.result in
    let more = room-more all i d c.loop-frame-test.true in
    let size : length d.items ≡ length (get_or all i d).items = ap (λ (v : Vec ℕ). length v.items) c.frame-item.is in (
      λ t. absurd cc,
      λ fits. absurd (omega (arith, more, fits, size, c.loop-frame.invariant, c.if-len-left.true, c.len.ensures)),
    )

pub loop-frame-preserved : goal.loop-frame-preserved
loop-frame-preserved c =
    let all = c.args.frames.now in
    let i = c.loop-frame.frame-index in
    let d = c.frame-item.result in
    let more = length-more all i d c.loop-frame-test.true in
    let size : length d.items ≡ length (get_or all i d).items = ap (λ (v : Vec ℕ). length v.items) c.frame-item.is in
    omega (arith, more, size, c.loop-frame.invariant, c.if-len-left.false, c.len.ensures, c.len-left.ensures)
