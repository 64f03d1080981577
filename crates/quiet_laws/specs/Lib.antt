pub mod Examples
pub mod Needs
