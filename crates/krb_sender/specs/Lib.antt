pub mod Times
pub mod SessionState
pub mod Session
pub mod Lane
