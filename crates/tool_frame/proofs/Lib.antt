pub mod AnswerLemmas
pub mod ShownLemmas
pub mod FileLemmas
pub mod FrameLemmas
pub mod CommandLemmas
