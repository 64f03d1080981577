pub mod Watches
pub mod WatchLaws
pub mod HeardPlays
pub mod WatchedRacks
pub mod WatchedDevices
