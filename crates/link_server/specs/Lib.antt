pub mod Orders
pub mod Runs
pub mod Ends
pub mod Clients
pub mod Drives
pub mod DriveLaws
pub mod Counts
