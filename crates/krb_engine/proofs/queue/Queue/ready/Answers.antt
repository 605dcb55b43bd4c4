use Rattle.std.proofs.Common.{◌≡◌, ◌<◌, ◌∙◌, Bool, true, false, ℕ, List, set, get_or, length, subst, sym, arith}
use Rattle.krb_engine.specs.Queue.{IsMarked}
use Rattle.krb_engine.proofs.QueueLemmas.{marked_push}
use Rattle.krb_engine.proofs.queue.Queue.ready.Goals as goal

pub invariant_of-self-2 : goal.invariant_of-self-2
invariant_of-self-2 c =
    let marks = c.make_room.new.marks.items in
    let is : IsMarked c.self.inside.order.items marks = record {
      marked = λ session. c.in_ok-make_room.ensures.same session ∙ c.self.invariant.marked session;
      distinct = c.self.invariant.distinct;
    } in
    let lt : c.args.session < length marks = omega (arith, c.in_ok-make_room.ensures.room) in
    let none : get_or marks c.args.session false ≡ false = cc (c.index.ensures, c.if-index.false) in
    subst (λ (q : List ℕ). IsMarked q (set marks c.args.session true)) (sym c.in_ok-push_back.ensures.items) (marked_push c.self.inside.order.items marks c.args.session is lt none)
