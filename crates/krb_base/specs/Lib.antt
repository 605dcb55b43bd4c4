pub mod Bytes
pub mod Secret
pub mod Steps
pub mod Lane
pub mod Limits
pub mod Prefix
