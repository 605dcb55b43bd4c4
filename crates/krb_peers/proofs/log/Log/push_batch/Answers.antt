-- What stands beside the entries follows the texts.
use Rattle.std.proofs.Common.{◌≡◌, ◌<◌, ◌++◌, length, get_or, ap, ◌∙◌, rules}
use Rattle.std.specs.List.{range_with_len}
use Rattle.krb_peers.proofs.LogLemmas.{same_vecs}
use Rattle.krb_peers.proofs.BatchLogLemmas.{indexed_texts}
use Rattle.krb_peers.proofs.log.Log.push_batch.Goals as goal

pub invariant_of-self-in_err-reserve-2 : goal.invariant_of-self-in_err-reserve-2
invariant_of-self-in_err-reserve-2 c =
    let old = c.self.inside in
    rw c.reserve.ensures.items (rw (same_vecs _ old.texts c.args.lane c.reserve-2.new.self _ c.reserve-2.ensures.items) c.self.invariant)

pub invariant_of-self-2 : goal.invariant_of-self-2
invariant_of-self-2 c =
    let old = c.self.inside in
    let within : c.args.lane < length old.texts = search rules in
    let texts : c.into_vec.result.items ≡ c.args.texts = search rules in
    let count : c.as_slice-count.result.now ≡ c.args.texts = search rules in
    let many : length c.as_slice-count.result.now ≡ length c.args.texts = ap length count in
    let added : c.add_places.new.places.items ≡ c.index-self-lane.result.items ++ range_with_len (length old.entries.items) (length c.args.texts) = search rules in
    let places : c.add_places.new.places.items ≡ (get_or old.texts c.args.lane c.index-self-lane.result).items ++ range_with_len (length old.entries.items) (length c.args.texts) =
    added ∙ ap (λ v. v.items ++ range_with_len (length old.entries.items) (length c.args.texts)) c.index-self-lane.is in
    rw (c.add_texts.ensures, c.reserve.ensures.items, texts)
    (indexed_texts (λ v. v.items) old.lanes old.entries.items c.args.lane c.args.texts old.texts c.add_places.new.places c.index-self-lane.result old.closed within places c.self.invariant)
