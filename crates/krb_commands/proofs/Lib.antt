mod AuthenticLemmas
pub mod EndedLemmas
pub mod EndsLemmas
pub mod FaultLemmas
pub mod LineLemmas
pub mod LinesLemmas
pub mod OpenedLemmas
pub mod OutputLemmas
mod ParsedLemmas
pub mod PlainLemmas
pub mod Readings
pub mod SealedLemmas
pub mod ShowLemmas
pub mod TextLemmas
pub mod TimeText
pub mod VectorLemmas
