pub mod OptionSteps
pub mod LaneLemmas
pub mod PrefixLemmas
