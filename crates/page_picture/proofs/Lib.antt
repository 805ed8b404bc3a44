pub mod MeaningLemmas
pub mod RunLemmas
pub mod PartLemmas
