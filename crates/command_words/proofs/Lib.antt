pub mod NumberLemmas
pub mod ValueLemmas
pub mod RunLemmas
pub mod FoundOrNot
