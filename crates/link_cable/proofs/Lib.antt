pub mod WireLemmas
pub mod MemLemmas
pub mod CarryLemmas
pub mod CableLemmas
