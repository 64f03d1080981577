pub mod LineLemmas
pub mod ClockLemmas
pub mod TraceLemmas
pub mod ExactLemmas
