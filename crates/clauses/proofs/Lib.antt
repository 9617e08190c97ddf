pub mod Steps
pub mod NameSteps
pub mod PassLaws
pub mod PassSteps
pub mod LaterSteps
pub mod ChainSteps
