pub mod CarriedPrograms
pub mod PadNames
pub mod OwnPaddings
pub mod CarriedTexts
pub mod CarriedRuns
pub mod CarriedRules
pub mod Examples
