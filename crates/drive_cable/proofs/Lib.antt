pub mod PeerLemmas
mod PartLemmas
mod BlockLemmas
mod CableLemmas
mod MemLemmas
