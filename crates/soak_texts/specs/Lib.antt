pub mod Boards
pub mod Draws
pub mod Lines
pub mod Programs
pub mod Soak
pub mod Steps
