use Rattle.std.proofs.Common.{◌≡◌, List, ℕ, Ok, subst, sym, rules}
use Rattle.krb_record.specs.Record.{SpellsRecord, kind_of}
use Rattle.krb_record.specs.declared.record.Record.{Record}
use Rattle.krb_seal.specs.Opens.{Opens}
use Rattle.krb_peers.proofs.ReceiverLemmas.{opens_record}
use Rattle.krb_peers.proofs.receiver.Receiver.open_coded.Goals as goal

pub returns-in-Some-clause-opened : goal.returns-in-Some-clause-opened
returns-in-Some-clause-opened c =
    let s = c.args.self.now in
    let user = c.in_ok-unsealed.field-0 in
    let found : (r : Record) × SpellsRecord r user × (c.in-Some.kind ≡ kind_of r) = search rules in
    opens_record s c.args.now c.args.frame.now (record { kind = c.in-Some.kind; bytes = c.from-bytes.result }) found.0 c.in_ok-unsealed.ensures.open
    (subst (λ (z : List ℕ). Opens s.opener s.demand.expected c.args.now c.args.frame.now (Ok z)) (sym c.from-bytes.ensures) c.in_ok-unsealed.ensures.opened)
    (subst (λ (z : List ℕ). SpellsRecord found.0 z) (sym c.from-bytes.ensures) found.1) found.2
