pub mod TriedInstrs
pub mod Moves
