pub mod WordLemmas
pub mod AnswerLemmas
pub mod OneAnswer
pub mod EveryAnswer
pub mod CanonicalLemmas
