mod Told
pub mod Values
pub mod HeldBox
pub mod Pairs
pub mod Crossing
