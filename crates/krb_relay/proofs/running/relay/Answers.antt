-- From what was gathered of all lanes.
use Rattle.std.proofs.Common.{◌≡◌, length, map, ap, ◌∙◌, rules}
use Rattle.krb_peers.specs.Log.{new_log}
use Rattle.krb_peers.specs.Sending.{source_of}
use Rattle.krb_relay.specs.Sent.{Served}
use Rattle.krb_relay.proofs.RelayedLemmas.{whole_of, sents_are, seals_of, stopped_own, stopped_worker, stopped_unstarted, unstarted_seals}
use Rattle.krb_relay.proofs.running.relay.Goals as goal

pub returns-in_default-clause-stopped : goal.returns-in_default-clause-stopped
returns-in_default-clause-stopped g c =
    let log_is : c.unstarted.result.log ≡ new_log (length c.args.receivings.items) = search rules in
    rw (c.unstarted.ensures.lane, c.unstarted.ensures.cause)
    (stopped_unstarted (λ part tx handed. Served (source_of g.S.Sealer.state part) tx handed) (source_of g.S.Sealer.state) (λ part tx handed k. k)
    c.args.sendings.items c.args.receivings.items c.unstarted.result.log c.requires.same log_is)

pub returns-in-Some-clause-stopped : goal.returns-in-Some-clause-stopped
returns-in-Some-clause-stopped g c =
    rw (c.into_fault.ensures.cause, c.into_fault.ensures.lane, c.into_fault.ensures.log)
    (stopped_own _ (source_of g.S.Sealer.state) (λ part tx handed k. k) c.args.sendings.items _ c.args.receivings.items _ _ _ _ _ c.reverse.ensures.items c.requires.same c.run_all-log.ensures c.in-Some.own)

pub returns-in-Some-fault-clause-stopped : goal.returns-in-Some-fault-clause-stopped
returns-in-Some-fault-clause-stopped g c =
    rw (c.into_fault-in-Some-fault.ensures.cause, c.into_fault-in-Some-fault.ensures.lane, c.into_fault-in-Some-fault.ensures.log)
    (stopped_worker _ (source_of g.S.Sealer.state) (λ part tx handed k. k) c.args.sendings.items _ c.args.receivings.items _ _ _ _ _ c.reverse.ensures.items c.requires.same c.run_all-log.ensures c.in-Some-fault.fault c.in_default-own.is c.in-Some-fault.is)

pub returns-in-None-clause-whole : goal.returns-in-None-clause-whole
returns-in-None-clause-whole g c =
    let told : c.in-Ok.sent.items ≡ map (λ sending. _) c.args.sendings.items = c.in-Ok.ensures ∙ ap (map _) c.as_slice.ensures.value in
    whole_of _ (source_of g.S.Sealer.state) (λ part tx handed k. k) c.args.sendings.items _ c.args.receivings.items _ _ _ _ _ c.reverse.ensures.items c.requires.same c.run_all-log.ensures c.in_default-own.is c.in-Ok.sent.items c.in-None.is
    (told ∙ sents_are (λ part tx handed. Served (source_of g.S.Sealer.state part) tx handed) (source_of g.S.Sealer.state) (λ part tx handed k. k) c.args.sendings.items c.args.receivings.items c.requires.same)

pub returns-in_default-clause-sealed : goal.returns-in_default-clause-sealed
returns-in_default-clause-sealed g c =
    let log_is : c.unstarted.result.log ≡ new_log (length c.args.receivings.items) = search rules in
    unstarted_seals (λ part tx handed. Served (source_of g.S.Sealer.state part) tx handed) (source_of g.S.Sealer.state) (λ part tx handed k. k)
    c.args.sendings.items c.args.receivings.items c.unstarted.result.log c.unstarted.result.sealed c.requires.same log_is c.unstarted.ensures.sealed

pub returns-in-Some-clause-sealed : goal.returns-in-Some-clause-sealed
returns-in-Some-clause-sealed g c =
    rw (c.into_fault.ensures.log, c.into_fault.ensures.sealed)
    (seals_of _ (source_of g.S.Sealer.state) (λ part tx handed k. k) c.args.sendings.items _ c.args.receivings.items _ _ _ _ _ c.reverse.ensures.items c.requires.same c.run_all-log.ensures)

pub returns-in-Some-fault-clause-sealed : goal.returns-in-Some-fault-clause-sealed
returns-in-Some-fault-clause-sealed g c =
    rw (c.into_fault-in-Some-fault.ensures.log, c.into_fault-in-Some-fault.ensures.sealed)
    (seals_of _ (source_of g.S.Sealer.state) (λ part tx handed k. k) c.args.sendings.items _ c.args.receivings.items _ _ _ _ _ c.reverse.ensures.items c.requires.same c.run_all-log.ensures)
