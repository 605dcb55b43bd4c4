-- What stands beside the entries follows the event.
use Rattle.std.proofs.Common.{◌≡◌, ◌<◌, [], ◌∷◌, ◌++◌, length, get_or, rules}
use Rattle.krb_peers.proofs.LogLemmas.{indexed_vecs, same_vecs, indexed_closed, indexed_refused}
use Rattle.krb_peers.proofs.log.Log.push.Goals as goal
use Rattle.krb_peers.proofs.log.Log.push.Goals.{in-Text+in_ok-push-in-Text, in-Closed, in-Refused}

pub invariant_of-self-2 : goal.invariant_of-self-2
invariant_of-self-2 c =
    let old = c.self.inside in
    elim c.match-event-2.branch [
      | in-Text+in_ok-push-in-Text w ↦
          let within : c.args.lane < length old.texts = search rules in
          let one_more : w.push.new.self.items ≡ (get_or old.texts c.args.lane w.index-self-lane.result).items ++ length old.entries.items ∷ [] = search rules in
          rw (c.push_reserved.ensures.items, w.self-inside-is, w.in-Text.is, c.reserve.ensures.items)
          (indexed_vecs _ old.lanes old.entries.items c.args.lane w.in-Text.field-0 old.texts w.push.new.self _ old.closed within one_more c.self.invariant)
      | in-Closed w ↦
          let within : c.args.lane < length old.closed = search rules in
          rw (c.push_reserved.ensures.items, w.self-inside-is, w.in-Closed.is, c.reserve.ensures.items)
          (indexed_closed old.lanes old.entries.items c.args.lane _ old.closed within c.self.invariant)
      | in-Refused w ↦
          rw (c.push_reserved.ensures.items, w.self-inside-is, w.in-Refused.is, c.reserve.ensures.items)
          (indexed_refused old.lanes old.entries.items c.args.lane w.in-Refused.field-0 _ old.closed c.self.invariant)
    ]

pub invariant_of-self-in_err-push-in-Text : goal.invariant_of-self-in_err-push-in-Text
invariant_of-self-in_err-push-in-Text c =
    let old = c.self.inside in
    rw c.reserve.ensures.items (rw (same_vecs _ old.texts c.args.lane c.push.new.self _ c.in_err-push-in-Text.ensures.items) c.self.invariant)
