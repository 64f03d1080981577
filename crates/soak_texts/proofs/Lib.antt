pub mod BoardLemmas
pub mod DrawLemmas
pub mod ListLemmas
pub mod StepLemmas
