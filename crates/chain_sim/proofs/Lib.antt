pub mod Clocking
pub mod Fitting
pub mod Racks
pub mod ReportOnes
pub mod PutParts
pub mod ReportCards
pub mod BlockRuns
