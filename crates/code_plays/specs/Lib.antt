pub mod Plays
pub mod CodePlays
pub mod Racks
