pub mod Etypes
pub mod Constants
