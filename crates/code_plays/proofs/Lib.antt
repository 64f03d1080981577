pub mod PlayLemmas
pub mod CodeLemmas
pub mod FaultLines
