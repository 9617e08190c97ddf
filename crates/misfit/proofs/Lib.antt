pub mod Standing
pub mod Agreeing
pub mod Spreading
