pub mod BatchLemmas
pub mod GroupLemmas
pub mod ReadingLemmas
pub mod RecordLemmas
