pub mod States
pub mod Readers
