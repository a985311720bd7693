pub mod Changes
pub mod Certified
pub mod Facts
pub mod Shapes
pub mod Rows
