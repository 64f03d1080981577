pub mod BytesLemmas
pub mod CauseLemmas
pub mod ShelfLemmas
pub mod PickLemmas
pub mod PutLemmas
