-- The definitions of FIPS 180-4 are those of the hash's crate.
pub mod Lanes
pub mod Rest
pub mod RestInside
