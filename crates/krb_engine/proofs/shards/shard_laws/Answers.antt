use Rattle.krb_engine.proofs.ShardLemmas.{under_way_is_the_sum, few_are_under_way, nothing_is_skipped, one_after_another, room_is_left, other_lists_begin}
use Rattle.krb_engine.proofs.shards.shard_laws.Goals as goal

pub returns : goal.returns
returns c = record {
  sum = under_way_is_the_sum;
  few = few_are_under_way;
  skips = nothing_is_skipped;
  turns = one_after_another;
  room = room_is_left;
  lists = other_lists_begin;
}
