pub mod OneAnswer
pub mod EveryRequest
pub mod RackLemmas
pub mod RequestLemmas
pub mod CompareLemmas
