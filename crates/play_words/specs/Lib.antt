pub mod Words
pub mod ReadParts
pub mod Codes
pub mod Statuses
pub mod NoFaults
