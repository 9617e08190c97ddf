pub mod Raw
pub mod Stands
pub mod Leads
pub mod Run
pub mod Walk
