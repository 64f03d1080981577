pub mod Sizes
pub mod Brackets
