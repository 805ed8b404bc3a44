pub mod HeaderLaws
pub mod PnmLaws
pub mod WritingLaws
