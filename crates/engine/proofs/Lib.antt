pub mod MisfitLaws
pub mod ListSteps
pub mod AskSteps
