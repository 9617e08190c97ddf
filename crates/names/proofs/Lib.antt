pub mod Laws
pub mod LetterSteps
pub mod ValueSteps
pub mod AttributeSteps
pub mod NameSteps
pub mod Matching
pub mod OperandLaws
