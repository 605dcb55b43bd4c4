use Rattle.std.proofs.Common.{◌≡◌, length, map, Some}
use Rattle.krb_job.specs.SenderView.{sender_view}
use Rattle.krb_peers.specs.Ends.{lanes_of}
use Rattle.krb_commands.specs.Ends.{AreReady, lane_stated}
use Rattle.krb_program.proofs.relay_command.relay_senders.OwnLists.{own-1}
use Rattle.krb_program.proofs.relay_command.relay_senders.Given as goal

-- the ends of one lane for each sender so far
abbrev pub invariant-loop-sender : goal.invariant-loop-sender
invariant-loop-sender g l =
    AreReady (λ s. ((own-1.entry s.vtable).1.state s.value)) l.sendings.items l.receivers.items.items
    × (length l.sendings.items ≡ length l.yielded)
    × (map Some (lanes_of (λ s. ((own-1.entry s.vtable).1.state s.value)) l.sendings.items l.receivers.items.items) ≡ map lane_stated (map sender_view l.yielded))
