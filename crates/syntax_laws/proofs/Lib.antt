pub mod Counted
pub mod Nested
pub mod Limited
pub mod Fewest
pub mod Bracketed
pub mod FewestInStatements
