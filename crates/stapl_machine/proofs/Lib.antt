pub mod TurnLemmas
pub mod TryLemmas
pub mod RunLemmas
pub mod Machines
pub mod PlayLemmas
