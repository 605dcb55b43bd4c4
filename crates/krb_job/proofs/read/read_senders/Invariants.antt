use Rattle.std.proofs.Common.{◌≡◌, [], true, drop, map, All, IsSome}
use Rattle.toml.specs.View.{items_view}
use Rattle.krb_job.specs.SenderKeys.{seals}
use Rattle.krb_job.specs.SenderView.{sender_view, keys_of}
use Rattle.krb_job.specs.Job.{senders_from}
use Rattle.krb_job.proofs.JobLemmas.{after_ok}
use Rattle.krb_job.proofs.read.read_senders.Given as goal

-- the senders so far are those of the items so far, and have seeds where the command seals
abbrev pub invariant-loop-j : goal.invariant-loop-j
invariant-loop-j l = record {
  read : senders_from l.command 0 [] (items_view l.items) ≡ after_ok (map sender_view l.senders.items) (senders_from l.command l.j (keys_of l.senders.items) (items_view (drop l.j l.items)));
  seeds : seals l.command ≡ true → All (λ sender. IsSome sender.seed) l.senders.items;
}
