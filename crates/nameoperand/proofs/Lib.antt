pub mod Steps
pub mod WritingSteps
