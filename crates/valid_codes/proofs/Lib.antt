mod DepthSteps
mod BreakSteps
