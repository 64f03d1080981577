pub mod WatchedPlays
pub mod Verdicts
