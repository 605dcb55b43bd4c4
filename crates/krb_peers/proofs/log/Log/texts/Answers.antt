-- The places that are kept are as many as the texts.
use Rattle.std.proofs.Common.{◌≡◌, ◌<◌, length, ap, ◌∙◌, rules}
use Rattle.krb_base.specs.Limits.{lane_limit}
use Rattle.krb_peers.specs.LogIndex.{places_from}
use Rattle.krb_peers.proofs.LogLemmas.{places_read, length-places_from}
use Rattle.krb_peers.proofs.log.Log.texts.Goals as goal

pub returns : goal.returns
returns c =
    let log = c.self.inside in
    let lane = c.args.lane in
    let within : lane < length log.texts = search rules in
    let small : lane < lane_limit = search rules in
    let places : c.index-self-lane.result.items ≡ places_from 0 lane log.entries.items =
    places_read (λ v. v.items) log.lanes log.entries.items log.texts log.closed lane c.index-self-lane.result within small c.index-self-lane.is c.self.invariant in
    let len : c.len.result ≡ length c.index-self-lane.result.items = search rules in
    rw (← c.self.view_is) (len ∙ (ap length places ∙ length-places_from 0 lane log.entries.items))
