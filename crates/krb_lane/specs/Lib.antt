pub mod Errors
pub mod Items
pub mod Rule
pub mod Side
pub mod Steps
pub mod Waiting
