pub mod ReasonLemmas
pub mod LiteralLemmas
pub mod SymbolLemmas
pub mod MappedLists
