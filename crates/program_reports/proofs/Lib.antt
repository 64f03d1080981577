pub mod CheckLemmas
pub mod ListLemmas
