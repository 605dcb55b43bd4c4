-- What was taken is opened and logged, so the ends and receivers stand where the log is.
use Rattle.std.proofs.Common.{◌∙◌, List, sym}
use Rattle.std.proofs.lemmas.Result.{err_from_is_err_and}
use Rattle.krb_lane.specs.Side.{Side}
use Rattle.krb_peers.specs.declared.receiver.Receiving.{Receiving}
use Rattle.krb_peers.specs.LogState.{LogState}
use Rattle.krb_relay.specs.declared.waiting.Waiting.{Waiting}
use Rattle.krb_relay.specs.Opening.{OpensEach}
use Rattle.krb_relay.specs.Serving.{Stands}
use Rattle.krb_relay.specs.Waiting.{HaveTaken, Waits}
use Rattle.krb_relay.proofs.StandsLemmas.{few_receivers}
use Rattle.krb_relay.proofs.WaitingLemmas.{ready_of, same_lanes_of, stops_from, waiting_of}
use Rattle.krb_relay.proofs.side_by_side.take_open_and_log.Goals as goal

waits : (starts : List Receiving) (ends now : List Side) (receivings opened : List Receiving) (ws vs : List Waiting) (log : LogState) → Stands 0 starts ends receivings log → HaveTaken ends now ws
    → OpensEach receivings ws opened vs → Waits 0 starts now opened vs log
waits starts ends now receivings opened ws vs log stands taken opens = record {
  mids = ends;
  its = receivings;
  stands = stands;
  waits = waiting_of ends receivings now opened ws vs (stands.each_receiver ∙ sym stands.each_end) taken opens;
}

pub open_round-requires-clause-ready : goal.open_round-requires-clause-ready
open_round-requires-clause-ready g c κs within =
    ready_of c.args.starts.now.value.items c.args.ends.now c.args.receivings.now c.args.log.now c.take_round-bytes.new.ends c.take_round-bytes.new.waiting c.requires.stands
    (c.take_round-bytes.ensures.taken c.args.ends.now c.requires.none) c.take_round-bytes.ensures.unjudged

pub open_round-requires-clause-few : goal.open_round-requires-clause-few
open_round-requires-clause-few g c κs within = few_receivers 0 c.args.starts.now.value.items c.args.ends.now c.args.receivings.now c.args.log.now c.requires.stands

pub log_all-requires : goal.log_all-requires
log_all-requires g c = record {
  starts = c.args.starts.now.value.items;
  ends = c.take_round-bytes.new.ends;
  receivings = c.open_round.new.receivings;
  waits = waits c.args.starts.now.value.items c.args.ends.now c.take_round-bytes.new.ends c.args.receivings.now c.open_round.new.receivings c.take_round-bytes.new.waiting c.open_round.new.waiting c.args.log.now
      c.requires.stands (c.take_round-bytes.ensures.taken c.args.ends.now c.requires.none) c.open_round.ensures;
}

pub returns-clause-ok : goal.returns-clause-ok
returns-clause-ok g c =
    c.in_ok-log_all.ensures.ok c.args.starts.now.value.items c.take_round-bytes.new.ends c.open_round.new.receivings
    (waits c.args.starts.now.value.items c.args.ends.now c.take_round-bytes.new.ends c.args.receivings.now c.open_round.new.receivings c.take_round-bytes.new.waiting c.open_round.new.waiting c.args.log.now
    c.requires.stands (c.take_round-bytes.ensures.taken c.args.ends.now c.requires.none) c.open_round.ensures)

pub returns-clause-same : goal.returns-clause-same
returns-clause-same g c = same_lanes_of c.args.ends.now c.take_round-bytes.new.ends c.take_round-bytes.new.waiting (c.take_round-bytes.ensures.taken c.args.ends.now c.requires.none)

pub returns-in_err-log_all-clause-same : goal.returns-in_err-log_all-clause-same
returns-in_err-log_all-clause-same g c = same_lanes_of c.args.ends.now c.take_round-bytes.new.ends c.take_round-bytes.new.waiting (c.take_round-bytes.ensures.taken c.args.ends.now c.requires.none)

pub returns-in_err-log_all-clause-err : goal.returns-in_err-log_all-clause-err
returns-in_err-log_all-clause-err g c =
    let starts = c.args.starts.now.value.items in
    let now = c.take_round-bytes.new.ends in
    let taken = c.take_round-bytes.ensures.taken c.args.ends.now c.requires.none in
    let stops = c.in_err-log_all.ensures.err starts now c.open_round.new.receivings
    (waits starts c.args.ends.now now c.args.receivings.now c.open_round.new.receivings c.take_round-bytes.new.waiting c.open_round.new.waiting c.args.log.now
    c.requires.stands taken c.open_round.ensures) in
    let p = err_from_is_err_and c.from_residual.result c.from_residual.ensures.1 in
    rw p.1 (stops_from starts c.args.ends.now now now c.log_all.new.log stops (same_lanes_of c.args.ends.now now c.take_round-bytes.new.waiting taken))
