pub mod PrintedTokens
pub mod Spacing
pub mod PrintedStatements
pub mod InitialValues
pub mod Spellable
pub mod Printable
pub mod CanonicalText
pub mod Examples
