pub mod Laws
pub mod HeldLaws
pub mod IdSteps
pub mod NameSteps
pub mod TargetSteps
pub mod UnderSteps
pub mod FollowSteps
