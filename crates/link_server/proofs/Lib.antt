pub mod FeedLemmas
pub mod Cuts
pub mod Blocks
