pub mod KindLaws
pub mod Steps
pub mod Places
pub mod Reading
pub mod PassLaws
pub mod PassSteps
pub mod Writing
