pub mod DrivenAnswers
pub mod DrivenPlans
