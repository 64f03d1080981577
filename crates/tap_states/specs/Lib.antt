pub mod Tap
pub mod Path
pub mod PathTable
