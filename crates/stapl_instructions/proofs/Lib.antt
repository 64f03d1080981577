pub mod Slices
pub mod MoveLemmas
pub mod OperandLemmas
