pub mod ChoiceLemmas
pub mod PlayLemmas
pub mod PadLemmas
