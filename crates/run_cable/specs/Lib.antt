pub mod HeardRuns
pub mod KeptRuns
pub mod EndedRuns
pub mod RunCables
pub mod RunCableLaws
