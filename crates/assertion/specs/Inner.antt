pub mod Work
pub mod Places
