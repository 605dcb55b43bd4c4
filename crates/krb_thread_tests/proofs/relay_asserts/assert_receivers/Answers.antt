-- One receiver more.
use Rattle.std.proofs.Common.{arith, rules, ◌<◌, length}
use Rattle.krb_peers.proofs.ListLemmas.{All-more, All-whole}
use Rattle.krb_thread_tests.proofs.relay_asserts.assert_receivers.Goals as goal

pub loop-receiving-preserved : goal.loop-receiving-preserved
loop-receiving-preserved g c =
    let lt : c.loop-receiving.receiving-index < length c.args.receivings.now = omega arith in
    All-more (λ receiving. 0 < length receiving.nows.items) c.args.receivings.now
    c.loop-receiving.receiving-index _ lt c.loop-receiving.invariant c.receiving-item.is
    (search rules)

pub returns : goal.returns
returns g c =
    All-whole (λ receiving. 0 < length receiving.nows.items) c.args.receivings.now
    c.loop-receiving.receiving-index c.loop-receiving.invariant (omega arith)
