pub mod Reading
pub mod ReadInstrs
pub mod ReadFiles
pub mod CodeFaults
