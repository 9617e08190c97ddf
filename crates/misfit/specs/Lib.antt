pub mod Opened
pub mod Trail
pub mod Spread
