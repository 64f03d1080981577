pub mod Turns
pub mod Reaches
pub mod Runs
pub mod Machines
