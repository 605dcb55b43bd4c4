use Rattle.std.proofs.Common.{◌≡◌, ℕ, zero, suc, ◌+◌, ◌<◌, List, [], ◌∷◌, map, length, drop, slice_index_or, sym, subst, arith}
use Rattle.krb_carry.specs.History.{with_frame, with_frames}
use Rattle.krb_carry.proofs.receipt.own_history.Goals as goal

-- one frame more is made of what is left
one_more : {X : Type 0} (bytes : X → List ℕ) (frames : List X) (i : ℕ) (d : X) (history whole : List ℕ) → i < length frames
    → with_frames history (drop i (map bytes frames)) ≡ whole
    → with_frames (with_frame history (bytes (slice_index_or frames i d))) (drop (i + 1) (map bytes frames)) ≡ whole
one_more bytes [] i d history whole lt is = absurd (omega (arith, lt))
one_more bytes (frame ∷ frames) zero d history whole lt is = is
one_more bytes (frame ∷ frames) (suc i) d history whole lt is =
    let next : suc i + 1 ≡ suc (i + 1) = omega arith in
    rw next (one_more bytes frames i d history whole (omega (arith, lt)) is)

pub loop-frame-preserved : goal.loop-frame-preserved
loop-frame-preserved c =
    subst (λ h. with_frames h (drop (c.loop-frame.frame-index + 1) (map (λ frame. frame.now) c.args.frames.now)) ≡ with_frames c.args.before.now (map (λ frame. frame.now) c.args.frames.now))
    (sym c.with_frame-history.ensures)
    (one_more (λ frame. frame.now) c.args.frames.now c.loop-frame.frame-index _ c.loop-frame.history _ c.loop-frame-test.true c.loop-frame.invariant)
