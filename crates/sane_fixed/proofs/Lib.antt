pub mod DigitLemmas
pub mod DecimalLaws
pub mod ExactDecimalLaws
pub mod TextLaws
