use Rattle.std.proofs.Common.{rules, inl, inr, ◌≡◌, ◌<◌, ◌≤◌, ◌++◌, ◌∷◌, [], length, arith, sym, ap, ◌∙◌, length-append}
use Rattle.std.specs.List.{zip}
use Rattle.std.proofs.lemmas.List.Elements.{All-head, All-tail}
use Rattle.krb_peers.specs.Sending.{source_of, IsSender}
use Rattle.krb_peers.specs.Ends.{lanes_of, ends_of}
use Rattle.krb_core.specs.Start.{FailsToBegin}
use Rattle.std.proofs.lemmas.List.{length-map}
use Rattle.krb_core.proofs.RelayedClaims.{turned_begun}
use Rattle.krb_core.proofs.StartLemmas.{lanes_begun, lanes_begun-length, length-zip, is_relay, zip_next, all_done, whole_done, is_new_log, lane_fails, if_err}
use Rattle.krb_core.proofs.stepped.Stepped.new.Goals as goal

pub begin_lane-requires-clause-sender : goal.begin_lane-requires-clause-sender
begin_lane-requires-clause-sender g c =
    All-head (λ sending. IsSender (source_of g.S.Sealer.state sending)) c.in-Some.sending c.next.new.self.a.rest.items (rw (c.in-Some.ensures.steps.0.0) at c.loop-sending.invariant.senders)

pub loop-sending-preserved : goal.loop-sending-preserved
loop-sending-preserved g c =
    let first : c.push.new.self.items ≡ c.loop-sending.tracks.items ++ c.in_ok-track.track ∷ [] = search rules in
    let second : c.push-in-loop-sending.new.self.items ≡ c.loop-sending.sents.items ++ c.in_ok-track.sent ∷ [] = search rules in
    record {
      next = search;
      finite = search;
      senders = All-tail (λ sending. IsSender (source_of g.S.Sealer.state sending)) c.in-Some.sending c.next.new.self.a.rest.items (rw (c.in-Some.ensures.steps.0.0) at c.loop-sending.invariant.senders);
      moments = All-tail (λ receiving. 0 < length receiving.nows.items) c.in-Some.receiving c.next.new.self.b.rest.items (rw (c.in-Some.ensures.steps.1.0) at c.loop-sending.invariant.moments);
      same = omega (arith, ap length c.in-Some.ensures.steps.0.0, ap length c.in-Some.ensures.steps.1.0, c.loop-sending.invariant.same);
      lanes = zip_next _ _ _ _ _ _ c.in-Some.sending c.in-Some.receiving c.loop-sending.invariant.lanes c.in-Some.ensures.steps.0.0 c.in-Some.ensures.steps.1.0;
      begun = rw (first, second) (lanes_begun g.S.Sealer.state c.args.capacity _ _ _ _ _ _ c.loop-sending.invariant.begun c.in_ok-track.ensures.ok);
    }

pub overflow_cast-lane : goal.overflow_cast-lane
overflow_cast-lane g c =
    let lengths = lanes_begun-length g.S.Sealer.state c.args.capacity c.loop-sending.yielded c.loop-sending.tracks.items c.loop-sending.sents.items c.loop-sending.invariant.begun in
    let few : c.len-lane.result ≤ 8 = omega (arith, lengths.tracks_are, ap length c.loop-sending.invariant.lanes, length-append c.loop-sending.yielded (zip c.loop-sending.sending-iterator.a.rest.items c.loop-sending.sending-iterator.b.rest.items), length-zip c.args.sendings.items c.args.receivings.items c.requires.same, c.requires.few, c.len-lane.ensures) in
    search rules

pub invariant_of-result : goal.invariant_of-result
invariant_of-result g c =
    let a = c.loop-sending.sending-iterator.a.rest in
    let b = c.loop-sending.sending-iterator.b.rest in
    let lengths = lanes_begun-length g.S.Sealer.state c.args.capacity c.loop-sending.yielded c.loop-sending.tracks.items c.loop-sending.sents.items c.loop-sending.invariant.begun in
    let first : length a.items ≡ a.len = search rules in
    let second : length b.items ≡ b.len = search rules in
    let none : length a.items ≡ 0 = elim c.in-None.ensures.steps [ inl h ↦ first ∙ h.1.0 | inr h ↦ c.loop-sending.invariant.same ∙ second ∙ h.1.0 ] in
    let all : length c.loop-sending.yielded ≡ length c.args.sendings.items = all_done c.args.sendings.items a.items c.args.receivings.items b.items c.loop-sending.yielded c.requires.same c.loop-sending.invariant.lanes c.loop-sending.invariant.same none in
    is_relay c.loop-sending.tracks.items c.new-log.result c.loop-sending.sents.items (omega (arith, lengths.tracks_are, all, c.new-log.ensures.lanes, c.len-count.ensures)) (lengths.sents_are ∙ sym lengths.tracks_are) c.new-log.ensures.entries

pub returns-in_err-track-clause-err : goal.returns-in_err-track-clause-err
returns-in_err-track-clause-err g c =
    let lengths = lanes_begun-length g.S.Sealer.state c.args.capacity c.loop-sending.yielded c.loop-sending.tracks.items c.loop-sending.sents.items c.loop-sending.invariant.begun in
    let e = c.in_err-track.field-0.0 in
    let whole = zip_next _ _ _ _ _ _ c.in-Some.sending c.in-Some.receiving c.loop-sending.invariant.lanes c.in-Some.ensures.steps.0.0 c.in-Some.ensures.steps.1.0 in
    if_err (FailsToBegin c.args.capacity (lanes_of g.S.Sealer.state c.args.sendings.items c.args.receivings.items)) e c.from_residual-in_err-track.result c.from_residual-in_err-track.ensures.1
    (lane_fails g.S.Sealer.state c.args.capacity _ c.loop-sending.yielded _ (c.in-Some.sending, c.in-Some.receiving) c.loop-sending.tracks.items c.loop-sending.sents.items c.len-lane.result e whole c.loop-sending.invariant.begun
    (omega (arith, lengths.tracks_are, c.len-lane.ensures)) c.in_err-track.ensures.err)

pub returns-clause-count : goal.returns-clause-count
returns-clause-count g c =
    let a = c.loop-sending.sending-iterator.a.rest in
    let b = c.loop-sending.sending-iterator.b.rest in
    let lengths = lanes_begun-length g.S.Sealer.state c.args.capacity c.loop-sending.yielded c.loop-sending.tracks.items c.loop-sending.sents.items c.loop-sending.invariant.begun in
    let first : length a.items ≡ a.len = search rules in
    let second : length b.items ≡ b.len = search rules in
    let none : length a.items ≡ 0 = elim c.in-None.ensures.steps [ inl h ↦ first ∙ h.1.0 | inr h ↦ c.loop-sending.invariant.same ∙ second ∙ h.1.0 ] in
    lengths.tracks_are ∙ all_done c.args.sendings.items a.items c.args.receivings.items b.items c.loop-sending.yielded c.requires.same c.loop-sending.invariant.lanes c.loop-sending.invariant.same none

pub returns-clause-turned : goal.returns-clause-turned
returns-clause-turned g c =
    let state = g.S.Sealer.state in
    let a = c.loop-sending.sending-iterator.a.rest in
    let b = c.loop-sending.sending-iterator.b.rest in
    let pairs = zip c.args.sendings.items c.args.receivings.items in
    let lanes = lanes_of state c.args.sendings.items c.args.receivings.items in
    let first : length a.items ≡ a.len = search rules in
    let second : length b.items ≡ b.len = search rules in
    let none : length a.items ≡ 0 = elim c.in-None.ensures.steps [ inl h ↦ first ∙ h.1.0 | inr h ↦ c.loop-sending.invariant.same ∙ second ∙ h.1.0 ] in
    let all : pairs ≡ c.loop-sending.yielded = whole_done pairs c.loop-sending.yielded a.items b.items c.loop-sending.invariant.lanes none in
    let count : length lanes ≡ length c.args.sendings.items =
    length-map pairs (ends_of state) ∙ length-zip c.args.sendings.items c.args.receivings.items c.requires.same in
    turned_begun lanes c.args.capacity _ (record {
      few = omega (arith, count, c.requires.few);
      lanes_are = rw all c.loop-sending.invariant.begun;
      log = is_new_log c.new-log.result (length c.args.sendings.items) (length lanes) (omega (arith, c.new-log.ensures.lanes, c.len-count.ensures)) c.new-log.ensures.entries c.new-log.ensures.ended count;
    })
