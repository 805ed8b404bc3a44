pub mod UserFieldLemmas
pub mod MarkLemmas
pub mod DigestLemmas
pub mod AllowedLemmas
pub mod UserReadingLemmas
pub mod StreamLemmas
