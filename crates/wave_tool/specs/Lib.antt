pub mod Items
pub mod States
pub mod Waves
pub mod Found
pub mod Words
pub mod Statuses
pub mod Answers
