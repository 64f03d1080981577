pub mod Judged
pub mod TextLemmas
pub mod ReadingLemmas
pub mod WalkLemmas
pub mod FaultLemmas
pub mod UniqueLemmas
pub mod Answered
