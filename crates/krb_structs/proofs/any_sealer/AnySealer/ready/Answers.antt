use Rattle.std.proofs.Common.{ℕ, arith, subst, sym, ap, ◌∙◌, ◌≡◌, false}
use Rattle.krb_seal.specs.Sealer.{SealerState, HasFrameSize}
use Rattle.krb_structs.specs.Moment.{micros_of}
use Rattle.krb_structs.proofs.Answering.{no_room, timed}
use Rattle.krb_structs.proofs.any_sealer.AnySealer.ready.Goals as goal

pub returns-then-frame_size-room-clause-fails : goal.returns-then-frame_size-room-clause-fails
returns-then-frame_size-room-clause-fails c =
    let at = micros_of c.args.at.now in
    let s : SealerState = c.args.self.now in
    let told = subst (λ (m : ℕ). HasFrameSize c.self.inside.sealer c.args.len m c.frame_size.result) c.in_ok-at.ensures.value c.frame_size.ensures in
    let sizes = subst (λ (x : SealerState). HasFrameSize x c.args.len at c.frame_size.result) c.self.view_is told in
    let live : s.wiped ≡ false = ap (λ (x : SealerState). x.wiped) (sym c.self.view_is) ∙ sym c.if-is_wiped.ensures in
    let next : s.next ≡ c.next.result = ap (λ (x : SealerState). x.next) (sym c.self.view_is) ∙ sym c.next.ensures.value in
    no_room s c.args.len c.args.at.now c.args.room c.frame_size.result (timed c.args.at.now c.in_ok-at.ensures.answer) live c.if-len-gt-USER_DATA_LIMIT.false (λ e. omega arith) sizes c.if-frame_size-room.true

pub returns-clause-ready : goal.returns-clause-ready
returns-clause-ready c =
    let at = micros_of c.args.at.now in
    let s : SealerState = c.args.self.now in
    let told = subst (λ (m : ℕ). HasFrameSize c.self.inside.sealer c.args.len m c.frame_size.result) c.in_ok-at.ensures.value c.frame_size.ensures in
    let sizes = subst (λ (x : SealerState). HasFrameSize x c.args.len at c.frame_size.result) c.self.view_is told in
    let live : s.wiped ≡ false = ap (λ (x : SealerState). x.wiped) (sym c.self.view_is) ∙ sym c.if-is_wiped.ensures in
    let next : s.next ≡ c.next.result = ap (λ (x : SealerState). x.next) (sym c.self.view_is) ∙ sym c.next.ensures.value in
    let is_timed = timed c.args.at.now c.in_ok-at.ensures.answer in
    record {
      unreserved = is_timed.0;
      is_moment = is_timed.1;
      can = record {
        live = live;
        short = c.if-len-gt-USER_DATA_LIMIT.false;
        left = λ e. omega arith;
        size = c.frame_size.result;
        sizes = sizes;
        fits = c.if-frame_size-room.false;
      };
    }
