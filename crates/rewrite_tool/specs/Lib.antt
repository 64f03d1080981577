pub mod Statuses
pub mod Words
pub mod Named
pub mod Texts
pub mod Answers
pub mod PlayedAlike
