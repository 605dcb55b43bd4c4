pub mod Many
pub mod Numbered
pub mod Four
pub mod BulkInside
pub mod Laws
