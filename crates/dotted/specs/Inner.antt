pub mod Arcs
pub mod Held
pub mod Stored
