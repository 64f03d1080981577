pub mod WordLemmas
pub mod OneAnswer
pub mod EveryAnswer
