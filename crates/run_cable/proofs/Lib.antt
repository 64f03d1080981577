pub mod HeardLemmas
pub mod KeptLemmas
