pub mod ShardLemmas
