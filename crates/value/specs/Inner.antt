pub mod Decodes
pub mod Lies
pub mod Work
