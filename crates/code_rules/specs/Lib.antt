pub mod Places
pub mod Instructions
pub mod KindMoves
pub mod Rules
pub mod Leads
