pub mod WordLemmas
pub mod OneRequest
pub mod EveryWords
