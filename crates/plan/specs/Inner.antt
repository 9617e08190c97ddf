pub mod Sort
pub mod Test
pub mod Operand
pub mod Task
pub mod Plan
pub mod Resolve
