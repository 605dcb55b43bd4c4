use Rattle.std.proofs.Common.{◌≡◌, ℕ, ◌+◌, ap, ◌∙◌, take}
use Rattle.krb_structs.specs.Moment.{micros_of}
use Rattle.krb_structs.specs.Peer.{PeerState, of_number, peer_opened}
use Rattle.krb_structs.proofs.PeerLemmas.{opened_number}
use Rattle.krb_structs.proofs.peer.Peer.open.Goals as goal

pub returns-clause-risen : goal.returns-clause-risen
returns-clause-risen c =
    let inside = c.self.inside in let told = c.open_telling.new.told in
    let p : PeerState = record { sealer = inside.sealer; opener = inside.opener; demand = inside.demand } in
    let came : told.number ≡ inside.demand.number =
    opened_number inside.opener inside.demand (micros_of c.args.at.now) c.args.frame.now (take c.in_ok-size.size c.open_telling.new.out) c.open_telling.new.told c.self.invariant c.in_ok-size.ensures.opened in
    ap (λ (n : ℕ). record p { demand = of_number p.demand (n + 1) }) (c.from.ensures ∙ came) ∙ ap peer_opened c.self.view_is
