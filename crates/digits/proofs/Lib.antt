pub mod Steps
pub mod BitSteps
pub mod NamedLaws
pub mod NamedSteps
pub mod SignificantLaws
