pub mod QuietClocks
pub mod PaddedRuns
pub mod QuietPlays
pub mod SamePlays
pub mod LoadedDeeds
pub mod QuietExamples
pub mod Reasons
pub mod FirstDeeds
