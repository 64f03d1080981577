pub mod Checks
pub mod Listings
