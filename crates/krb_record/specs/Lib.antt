pub mod Batch
pub mod Groups
pub mod Reading
pub mod Record
