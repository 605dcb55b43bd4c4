pub mod TurnLemmas
pub mod FirstLemmas
pub mod BulkLemmas
pub mod ReadyLemmas
pub mod SafeLemmas
