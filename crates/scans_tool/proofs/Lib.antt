pub mod WordLemmas
pub mod FileLemmas
pub mod AnswerLemmas
pub mod OneAnswer
pub mod Answered
