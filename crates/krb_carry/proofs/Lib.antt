pub mod StoreLemmas
pub mod ShardLemmas
pub mod ProgressLemmas
pub mod ReadingLemmas
pub mod PublishedLemmas
pub mod OutboxLemmas
pub mod TwiceLemmas
pub mod DeliveryLemmas
mod LawLemmas
pub mod CopyLemmas
pub mod ClaimLemmas
pub mod TextLemmas
pub mod ForkLemmas
pub mod ExampleLemmas
