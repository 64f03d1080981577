pub mod Wires
pub mod MemWires
pub mod LinkCables
pub mod WireCalls
pub mod CableLaws
pub mod WireLaws
