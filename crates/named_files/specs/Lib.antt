pub mod Words
pub mod Named
pub mod Contents
pub mod Boards
pub mod Texts
