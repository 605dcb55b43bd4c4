use Rattle.std.proofs.Common.{arith}
use Rattle.krb_bulk.proofs.ReadyLemmas.{lent_ready, receiver_within, sender_within}
use Rattle.krb_bulk.proofs.TurnLemmas.{numbers_left}
use Rattle.krb_bulk.proofs.many.frames_of.Goals as goal

pub new-requires-2-clause-sender : goal.new-requires-2-clause-sender
new-requires-2-clause-sender g c = sender_within _ _ c.parts-parts.ensures.session c.parts-parts.ensures.addresses

pub new-requires-2-clause-receiver : goal.new-requires-2-clause-receiver
new-requires-2-clause-receiver g c = receiver_within _ _ c.parts-parts.ensures.session c.parts-parts.ensures.addresses

pub frames-requires : goal.frames-requires
frames-requires g c =
    lent_ready c.args.sealer.now _ (record { etype = c.parts-parts.ensures.etype; keys = c.parts-parts.ensures.keys; session = c.parts-parts.ensures.session; next = c.next-next.ensures.value })
    c.in_ok-addresses.ensures.sender c.in_ok-addresses.ensures.receiver c.parts-parts.ensures.addresses c.in_ok-check.ensures (grind (arith, c.if-is_empty.ensures, c.if-is_empty.false))

pub returns-clause-numbers : goal.returns-clause-numbers
returns-clause-numbers g c = numbers_left c.args.sealer.now c.args.messages.now c.in_ok-check.ensures c.next-next.ensures.in_range
