pub mod HeardRuns
