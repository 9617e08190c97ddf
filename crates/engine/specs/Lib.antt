pub mod Limits
pub mod Misfit
pub mod Answer
pub mod Inner
pub mod Listing
pub mod Computing
pub mod Paper
pub mod Examples
