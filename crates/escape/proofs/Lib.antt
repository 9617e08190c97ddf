pub mod Laws
pub mod Steps
pub mod Types
pub mod Letters
pub mod Unicode
pub mod Reading
pub mod Building
