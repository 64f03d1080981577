pub mod BoardLemmas
pub mod WordLemmas
pub mod ContentLemmas
