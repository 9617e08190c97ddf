pub mod Pick
pub mod Octets
pub mod Text
pub mod Utf8
pub mod Quoted
pub mod Inner
pub mod Computing
pub mod Examples
