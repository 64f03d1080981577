pub mod WriterLemmas
pub mod DigitLemmas
