pub mod Answers
pub mod Files
pub mod Frame
pub mod Commands
