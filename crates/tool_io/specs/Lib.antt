pub mod Causes
pub mod Files
pub mod Bytes
pub mod Lines
pub mod Texts
pub mod Sinks
pub mod Shelves
pub mod Adapters
