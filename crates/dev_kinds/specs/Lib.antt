pub mod ShiftRegister
pub mod Logic
pub mod DataRegisters
pub mod Propositions
pub mod Registers
pub mod Memories
