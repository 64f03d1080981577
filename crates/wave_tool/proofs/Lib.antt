pub mod WaveLemmas
pub mod WordLemmas
pub mod OneAnswer
pub mod AnswerLemmas
pub mod Settled
