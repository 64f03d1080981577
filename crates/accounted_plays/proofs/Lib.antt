pub mod CodeTurns
pub mod Sums
pub mod SourceAccounts
