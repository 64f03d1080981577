pub mod Given
pub mod Seen
pub mod Looks
pub mod Reading
pub mod PartReading
pub mod BodyReading
pub mod Answers
