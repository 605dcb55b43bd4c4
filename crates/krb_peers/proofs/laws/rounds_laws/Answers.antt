use Rattle.std.proofs.Common.{sym, subst}
use Rattle.krb_peers.specs.Rounds.{AreRounds}
use Rattle.krb_peers.proofs.RoundsLemmas.{rounds_below-push, rounds-push, of_lane, by_places, rounds_alone}
use Rattle.krb_peers.proofs.laws.rounds_laws.Goals as goal

pub returns : goal.returns
returns c = record {
  by_places = λ lists entries. (rounds_alone lists entries, λ is. subst (AreRounds lists) (sym is) (by_places lists));
  of_lane = of_lane;
  goes_on = rounds_below-push;
  next = rounds-push;
}
