pub mod AlikePlays
pub mod LinkLemmas
pub mod LinkedPlays
