pub mod Numbers
pub mod Elements
pub mod Readers
pub mod Writers
