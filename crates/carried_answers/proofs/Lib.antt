pub mod CarriedAnswers
