pub mod PrintLemmas
pub mod PieceLemmas
pub mod NameLemmas
pub mod RewrittenLemmas
