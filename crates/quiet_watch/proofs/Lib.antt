pub mod Walked
pub mod Scanned
pub mod WatchedDeeds
pub mod WatchedPlays
pub mod WatchSteps
