pub mod Statuses
pub mod Sessions
pub mod Pieces
pub mod Answers
pub mod FinalRacks
pub mod Written
pub mod Commands
