pub mod Reasons
pub mod Lines
pub mod Shapes
pub mod Contents
pub mod Limits
pub mod Boards
pub mod Reading
