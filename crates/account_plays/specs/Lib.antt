pub mod AccountTurns
pub mod RunTexts
pub mod AccountedTurns
pub mod AccountedRuns
