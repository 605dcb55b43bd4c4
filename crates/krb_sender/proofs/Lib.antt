pub mod TimesLemmas
pub mod LaneLemmas
pub mod TurnLemmas
