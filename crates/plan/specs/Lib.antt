pub mod inner
pub mod Examples
