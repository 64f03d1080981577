pub mod Wraps
pub mod Bitwise
pub mod PrintLemmas
pub mod SettingLemmas
pub mod SpanLemmas
pub mod ArrayLemmas
pub mod RoomLemmas
