pub mod Peers
pub mod Digits
pub mod PeerLaws
pub mod PeerCalls
pub mod DriveCables
pub mod FilePeers
pub mod MemPeers
