pub mod Scan
pub mod Text
