pub mod Places
pub mod Rack
pub mod Runs
pub mod RunLaws
pub mod Chains
pub mod Reports
