pub mod Explanations
pub mod Explained
pub mod Numbers
pub mod Pieces
pub mod BoardLines
pub mod Questions
pub mod Statuses
