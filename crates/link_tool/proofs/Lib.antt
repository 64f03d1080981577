pub mod EndLemmas
pub mod ServingLemmas
pub mod FileLemmas
pub mod AnswerLemmas
