pub mod Progress
pub mod Laws
pub mod Bounds
pub mod Steps
