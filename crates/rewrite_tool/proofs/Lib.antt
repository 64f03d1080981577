pub mod WordLemmas
pub mod OneAnswer
pub mod EveryRequest
pub mod ProgramLemmas
pub mod RequestLemmas
pub mod PlayedAlike
