pub mod ImageLaws
pub mod Laws
pub mod Steps
pub mod ImageSteps
pub mod Preparing
pub mod Comparing
pub mod Twice
