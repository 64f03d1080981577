pub mod Earlier
pub mod MentionLemmas
pub mod StopLemmas
pub mod ScopeLemmas
pub mod CourseLemmas
