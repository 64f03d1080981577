pub mod ShownStates
pub mod ReadLines
pub mod ReadDumps
