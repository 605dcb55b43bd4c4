pub mod Calendar
pub mod Time
pub mod Reading
pub mod Moment
