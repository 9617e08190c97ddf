pub mod ArcSteps
pub mod Steps
pub mod SmallSteps
pub mod HeldSteps
pub mod StoredLaws
pub mod StoredSteps
