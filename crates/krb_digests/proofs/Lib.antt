pub mod LaneLemmas
mod EndLemmas
mod DigestLemmas
