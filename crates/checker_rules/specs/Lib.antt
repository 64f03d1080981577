pub mod BrokenRules
pub mod Earlier
pub mod Scopes
pub mod Counts
pub mod Places
pub mod Mentioned
pub mod Courses
