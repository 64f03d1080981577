pub mod HeardFollows
pub mod FirstZeros
pub mod Judges
pub mod PieceAt
