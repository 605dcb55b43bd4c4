pub mod ForgeryLemmas
pub mod ShownLemmas
