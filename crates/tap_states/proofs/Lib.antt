pub mod States
pub mod ListOrder
pub mod Shortest
