pub mod Counts
pub mod ShapeLemmas
pub mod SizeLemmas
pub mod SymbolBytes
pub mod TextLemmas
