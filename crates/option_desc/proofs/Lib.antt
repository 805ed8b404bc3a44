pub mod FitsLaws
pub mod PutLaws
pub mod RefusesLaws
pub mod ReadsLaws
pub mod ReadLaws
pub mod PieceLaws
pub mod ShownLaws
