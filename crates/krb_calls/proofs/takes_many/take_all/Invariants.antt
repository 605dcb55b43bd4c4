use Rattle.std.proofs.Common.{◌≡◌, ◌≤◌, length, drop}
use Rattle.krb_calls.specs.Codes.{AreCoded}
use Rattle.krb_calls.proofs.TakesTurnLemmas.{GoesOn}
use Rattle.krb_calls.proofs.takes_many.take_all.Given as goal

abbrev pub invariant-loop-index : goal.invariant-loop-index
invariant-loop-index l = record {
  opener : l.receiver.opener ≡ l.fn.receiver.opener;
  within : l.from ≤ length l.out;
  coded : AreCoded l.receiver.opener (drop l.index l.frames) l.queue.items;
  goes_on : GoesOn l.fn.receiver l.at l.frames l.fn.taken l.fn.out l.receiver l.index l.taken l.from l.out;
}
