pub mod ExplainLemmas
pub mod OutcomeLemmas
pub mod TextLemmas
pub mod CodeLemmas
pub mod FileLemmas
