pub mod Accounted
pub mod CodeAccounts
