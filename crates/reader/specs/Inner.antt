pub mod Reads
pub mod Sees
