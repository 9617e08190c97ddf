pub mod NameSteps
pub mod SetSteps
