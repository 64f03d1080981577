pub mod Judgements
pub mod Readings
pub mod Walks
pub mod Firsts
pub mod Answers
