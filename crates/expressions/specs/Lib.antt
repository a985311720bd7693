pub mod Variables
pub mod Expressions
