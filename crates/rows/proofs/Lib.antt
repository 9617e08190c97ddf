pub mod Steps
pub mod Laws
pub mod KindLaws
pub mod NumberSteps
pub mod NameSteps
pub mod FollowerSteps
