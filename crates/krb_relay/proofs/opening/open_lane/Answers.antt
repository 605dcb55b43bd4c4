-- A frame more, and where it ends.
use Rattle.std.proofs.Common.{◌∙◌, ◌<◌, ◌+◌, length, refl, sym, ap, arith, rules}
use Rattle.std.specs.VecDeque.{deque_len}
use Rattle.krb_relay.proofs.OpeningLemmas.{none_judged, one_opened, opens_at, opens_none}
use Rattle.krb_relay.proofs.opening.open_lane.Goals as goal

pub returns-then-is_err : goal.returns-then-is_err
returns-then-is_err c = opens_none c.args.receiving.now c.args.waiting.now _ refl refl refl (c.reserve.ensures.items ∙ c.requires.ready.unjudged)

pub loop-k-init : goal.loop-k-init
loop-k-init c =
    let none = c.reserve.ensures.items ∙ c.requires.ready.unjudged in
    let before = c.args.waiting.now.verdicts.ok.0 ∙ ap length c.requires.ready.unjudged in
    let len = c.reserve.ensures.len in
    let room = c.reserve.ensures.ok in
    record {
      came = refl;
      frames = refl;
      last = refl;
      sofar = len ∙ before;
      room = search rules;
      judged = none_judged c.args.receiving.now _ c.args.waiting.now.frames.items c.reserve.new.self.items none;
    }

pub index-requires : goal.index-requires
index-requires c =
    let e = ap (λ q. deque_len q) c.loop-k.invariant.frames in
    let n = c.len-count.ensures in
    let t = c.loop-k-test.true in
    omega (arith, e, n, t)

pub loop-k-preserved : goal.loop-k-preserved
loop-k-preserved c =
    let i = c.loop-k.invariant in
    let room = i.room in
    let kept = c.push_back_reserved.ensures.capacity in
    let n = c.len-count.ensures ∙ c.args.waiting.now.frames.ok.0 in
    let t = c.loop-k-test.true in
    let lt : c.loop-k.k < length c.args.waiting.now.frames.items = omega (arith, n, t) in
    record {
      came = i.came;
      frames = i.frames;
      last = i.last;
      sofar = c.push_back_reserved.ensures.len ∙ ap (λ k. k + 1) i.sofar;
      room = omega (arith, room, kept);
      judged = one_opened c.args.receiving.now _ c.loop-k.k c.args.waiting.now.frames.items c.loop-k.waiting.frames.items c.loop-k.waiting.verdicts.items c.push_back_reserved.new.self.items
          c.loop-k.receiving c.judge.new.receiving c.as_slice-frame.result.now c.index.result.now c.in-Some.verdict lt (sym c.loop-k.waiting.verdicts.ok.0 ∙ i.sofar) (ap (λ q. q.items) i.frames)
          c.as_slice-frame.ensures c.index.ensures i.judged c.in-Some.ensures c.push_back_reserved.ensures.items;
    }

pub returns-in-None : goal.returns-in-None
returns-in-None c =
    let i = c.loop-k.invariant in
    opens_at c.args.receiving.now c.args.waiting.now c.loop-k.receiving c.judge.new.receiving c.loop-k.waiting c.len-count.result i.came i.frames i.last (c.len-count.ensures ∙ c.args.waiting.now.frames.ok.0) c.requires.ready.came i.judged c.in-None.ensures

pub returns : goal.returns
returns c =
    let i = c.loop-k.invariant in
    opens_at c.args.receiving.now c.args.waiting.now c.loop-k.receiving c.loop-k.receiving c.loop-k.waiting c.len-count.result i.came i.frames i.last (c.len-count.ensures ∙ c.args.waiting.now.frames.ok.0) c.requires.ready.came i.judged refl
