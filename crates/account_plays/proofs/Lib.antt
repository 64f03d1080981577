pub mod TurnLemmas
pub mod RunTextLemmas
pub mod HeardTurns
pub mod AccountLemmas
pub mod RunAccounts
pub mod WholeRuns
pub mod FirstLemmas
