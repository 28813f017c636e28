pub mod PageLemmas
pub mod MarkLemmas
