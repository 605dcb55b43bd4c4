use Rattle.std.proofs.Common.{take}
use Rattle.krb_peers.specs.Plan.{contents, emissions}
use Rattle.krb_peers.specs.Verdicts.{AllBytes}
use Rattle.krb_peers.proofs.emission.known_emissions.Given as goal

abbrev pub invariant-loop-emission : goal.invariant-loop-emission
invariant-loop-emission l =
    AllBytes (contents l.frames) → AllBytes (emissions (contents l.frames) (take l.emission-index l.plan))
