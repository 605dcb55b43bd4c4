use Rattle.krb_receiver.proofs.ShardLemmas.{Settling}
use Rattle.krb_receiver.proofs.shard.settle_all.Given as goal

abbrev pub invariant-loop-place : goal.invariant-loop-place
invariant-loop-place l = Settling l.fn.is_stored l.fn.sessions l.sessions l.fn.receipts l.receipts l.taken.items

abbrev pub decreases-loop-place : goal.decreases-loop-place
decreases-loop-place l = goal.left-loop-place l
