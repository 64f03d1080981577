pub mod Texts
pub mod Statuses
pub mod Answers
pub mod FinalRacks
