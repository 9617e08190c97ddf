pub mod MemberRows
pub mod NameSteps
pub mod Steps
pub mod Laws
