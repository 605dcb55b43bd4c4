use Rattle.std.proofs.Common.{◌<◌, length, subst, arith}
use Rattle.krb_engine.specs.Queue.{IsMarked}
use Rattle.krb_engine.proofs.QueueLemmas.{has_mark}
use Rattle.krb_engine.proofs.queue.Queue.serve.Goals as goal

pub index_mut-requires : goal.index_mut-requires
index_mut-requires c =
    let waits : c.in_ok-session.session < length c.self.inside.waits.items = has_mark c.in_ok-session.session c.pop_front.new.self.items c.self.inside.waits.items (subst (λ q. IsMarked q c.self.inside.waits.items) c.in_ok-session.ensures.items c.self.invariant) in
    omega (arith, waits)
