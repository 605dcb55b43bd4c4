mod Vectors
mod NumberLemmas
mod LcmLemmas
mod FoldLemmas
mod StreamLemmas
mod SumLemmas
pub mod HmacLemmas
