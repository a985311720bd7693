pub mod Statements
pub mod Drawn
pub mod Calls
pub mod Paths
pub mod Printed
pub mod Marks
pub mod Stored
