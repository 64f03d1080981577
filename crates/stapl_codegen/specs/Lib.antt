pub mod Emit
pub mod Correct
pub mod Drafts
pub mod Accepted
pub mod Generated
pub mod Unstuck
pub mod Numbers
