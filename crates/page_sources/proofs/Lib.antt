pub mod PageLemmas
pub mod ScanLemmas
pub mod RowLemmas
pub mod ShownLemmas
pub mod ThirdLemmas
pub mod ScalingLemmas
pub mod EightLemmas
