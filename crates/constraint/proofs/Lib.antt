pub mod RangeLaws
pub mod ListLaws
pub mod EntryLaws
pub mod PlaceLaws
