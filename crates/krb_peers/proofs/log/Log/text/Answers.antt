-- Each place that is kept is that of a text.
use Rattle.std.proofs.Common.{◌≡◌, ◌<◌, ◌≤◌, get_or, length, ap, sym, ◌∙◌, Some, inl, inr, rules, arith}
use Rattle.std.proofs.lemmas.Option.{slice_get_past}
use Rattle.krb_base.specs.Limits.{lane_limit}
use Rattle.krb_peers.specs.Log.{texts_of}
use Rattle.krb_peers.specs.LogIndex.{places_from}
use Rattle.krb_peers.proofs.LogLemmas.{places_read, length-places_from, IsTextAt, text_read, IsTextAt-below, text_found, text_not_closed, text_not_refused}
use Rattle.krb_peers.proofs.log.Log.text.Goals as goal

pub returns-in_err-place : goal.returns-in_err-place
returns-in_err-place c =
    let log = c.self.inside in
    let lane = c.args.lane in
    let within : lane < length log.texts = search rules in
    let small : lane < lane_limit = search rules in
    let places : c.index-self-lane.result.items ≡ places_from 0 lane log.entries.items =
    places_read (λ v. v.items) log.lanes log.entries.items log.texts log.closed lane c.index-self-lane.result within small c.index-self-lane.is c.self.invariant in
    let past : length c.index-self-lane.result.items ≤ c.args.i = search rules in
    let none : length (texts_of lane log.entries.items) ≤ c.args.i = omega (arith, ap length places, length-places_from 0 lane log.entries.items) in
    rw (c.from_residual.ensures, ← c.self.view_is) (sym (slice_get_past (texts_of lane log.entries.items) c.args.i none))

pub index-requires : goal.index-requires
index-requires c =
    let log = c.self.inside in
    let lane = c.args.lane in
    let within : lane < length log.texts = search rules in
    let small : lane < lane_limit = search rules in
    let place = c.in_ok-place.place.now in
    let below : c.args.i < length c.index-self-lane.result.items = search rules in
    let at : place ≡ get_or c.index-self-lane.result.items c.args.i place = search rules in
    let is : IsTextAt 0 log.entries.items (texts_of lane log.entries.items) c.args.i place =
    text_read (λ v. v.items) log.lanes log.entries.items log.texts log.closed lane c.index-self-lane.result c.args.i place within small c.index-self-lane.is c.self.invariant below at in
    let inside : place < length log.entries.items = IsTextAt-below log.entries.items (texts_of lane log.entries.items) c.args.i place is in search rules

pub returns-in-Text : goal.returns-in-Text
returns-in-Text c =
    let log = c.self.inside in
    let lane = c.args.lane in
    let within : lane < length log.texts = search rules in
    let small : lane < lane_limit = search rules in
    let place = c.in_ok-place.place.now in
    let below : c.args.i < length c.index-self-lane.result.items = search rules in
    let at : place ≡ get_or c.index-self-lane.result.items c.args.i place = search rules in
    let is : IsTextAt 0 log.entries.items (texts_of lane log.entries.items) c.args.i place =
    text_read (λ v. v.items) log.lanes log.entries.items log.texts log.closed lane c.index-self-lane.result c.args.i place within small c.index-self-lane.is c.self.invariant below at in
    rw (← c.self.view_is) (ap (λ t. Some t) c.as_slice.ensures ∙ text_found log.entries.items (texts_of lane log.entries.items) c.args.i place c.index.result.now c.in-Text.text is c.index.ensures c.in-Text.is)

pub returns-in-Closed : goal.returns-in-Closed
returns-in-Closed c =
    let log = c.self.inside in
    let lane = c.args.lane in
    let within : lane < length log.texts = search rules in
    let small : lane < lane_limit = search rules in
    let place = c.in_ok-place.place.now in
    let below : c.args.i < length c.index-self-lane.result.items = search rules in
    let at : place ≡ get_or c.index-self-lane.result.items c.args.i place = search rules in
    let is : IsTextAt 0 log.entries.items (texts_of lane log.entries.items) c.args.i place =
    text_read (λ v. v.items) log.lanes log.entries.items log.texts log.closed lane c.index-self-lane.result c.args.i place within small c.index-self-lane.is c.self.invariant below at in
    let entry = c.index.result.now in
    let texts = texts_of lane log.entries.items in
    elim c.in-Closed.is [
      | inl closed ↦ absurd (text_not_closed log.entries.items texts c.args.i place entry is c.index.ensures closed)
      | inr refused ↦ absurd (text_not_refused log.entries.items texts c.args.i place entry refused.0 is c.index.ensures refused.1)
    ]
