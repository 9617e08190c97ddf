pub mod Rows
pub mod Fields
pub mod Words
pub mod Pass
