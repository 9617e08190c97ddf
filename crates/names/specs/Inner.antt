pub mod Reading
pub mod Operand
