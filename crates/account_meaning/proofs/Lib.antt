pub mod SourceTurns
pub mod ScanSums
pub mod SourceTexts
pub mod ToldTurns
pub mod TurnRooms
