pub mod NewNames
pub mod Printing
pub mod Rewritten
