use Rattle.krb_laws.proofs.PeerLemmas.{begin, calls_go_on, keep_numbers, open_in_order, agree}
use Rattle.krb_laws.proofs.HappenLemmas.{happen}
use Rattle.krb_laws.proofs.TurnLemmas.{open_the_next}
use Rattle.krb_laws.proofs.peers.peer_laws.Goals as goal

pub returns : goal.returns
returns c =
    let law = c.export_laws.ensures in
    record { begins = begin; goes_on = calls_go_on; numbers = keep_numbers law; in_order = open_in_order law; both = agree law; next = open_the_next; met = happen }
