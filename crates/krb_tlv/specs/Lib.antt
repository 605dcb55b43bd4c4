pub mod Tag
pub mod UniversalTag
pub mod Length
pub mod Element
pub mod Integer
pub mod Reading
pub mod Writing
