pub mod PackedLemmas
pub mod TurnLemmas
pub mod TakesTurnLemmas
pub mod CodeLemmas
pub mod TakenLemmas
pub mod NumberLemmas
