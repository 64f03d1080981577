pub mod CommandLemmas
pub mod QuestionLemmas
pub mod WhyLemmas
