pub mod Laws
pub mod Progress
pub mod Steps
