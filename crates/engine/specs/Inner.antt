pub mod Checked
pub mod Judged
pub mod Listed
