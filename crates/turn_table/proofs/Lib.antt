pub mod Scans
pub mod Entries
pub mod OneTable
